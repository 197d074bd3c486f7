-- The law.
use Rattle.recompile.proofs.ChangeLemmas.{quiet_changes_keep_jobs}
use Rattle.recompile.proofs.laws.quiet_changes_keep_jobs.Goals as goal

pub returns : goal.returns
returns c = quiet_changes_keep_jobs
