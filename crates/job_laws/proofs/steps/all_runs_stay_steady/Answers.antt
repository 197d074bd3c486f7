use Rattle.job_laws.proofs.AllSteps.{all_runs_stay_steady}
use Rattle.job_laws.proofs.steps.all_runs_stay_steady.Goals as goal

pub returns : goal.returns
returns c = all_runs_stay_steady
