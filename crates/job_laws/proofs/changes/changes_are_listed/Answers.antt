use Rattle.job_laws.proofs.ListedChanges.{changes_are_listed}
use Rattle.job_laws.proofs.changes.changes_are_listed.Goals as goal

pub returns : goal.returns
returns c = changes_are_listed
