use Rattle.job_laws.proofs.AllSteps.{steady_without_jobs}
use Rattle.job_laws.proofs.steps.steady_without_jobs.Goals as goal

pub returns : goal.returns
returns c = steady_without_jobs
