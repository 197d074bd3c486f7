use Rattle.job_upkeep.proofs.QuietLines.{quiet_keep}
use Rattle.job_upkeep.proofs.lines.quiet_lines_keep_jobs.Goals as goal

pub returns : goal.returns
returns c = quiet_keep c.steps_stay_steady.ensures c.jobs_leave_lines.ensures c.units_stay.ensures c.quiet_changes_keep_jobs.ensures
