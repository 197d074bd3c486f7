use Rattle.job_upkeep.proofs.QuietLines.{begin}
use Rattle.job_upkeep.proofs.lines.jobs_begin.Goals as goal

pub returns : goal.returns
returns c = begin c.pairs_are_live.ensures
