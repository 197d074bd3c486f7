use Rattle.job_laws.proofs.EndedJobs.{jobs_end}
use Rattle.job_laws.proofs.ending.jobs_end.Goals as goal

pub returns : goal.returns
returns c = jobs_end
