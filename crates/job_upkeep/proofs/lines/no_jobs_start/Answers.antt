use Rattle.job_upkeep.proofs.QuietLines.{none_start}
use Rattle.job_upkeep.proofs.lines.no_jobs_start.Goals as goal

pub returns : goal.returns
returns c = none_start c.jobs_leave_lines.ensures
