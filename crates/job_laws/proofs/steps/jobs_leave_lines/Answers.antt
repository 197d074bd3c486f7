use Rattle.job_laws.proofs.OtherLines.{jobs_leave_lines}
use Rattle.job_laws.proofs.steps.jobs_leave_lines.Goals as goal

pub returns : goal.returns
returns c = jobs_leave_lines
