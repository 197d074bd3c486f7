use Rattle.job_laws.proofs.AllSteps.{all_steps_stay_steady}
use Rattle.job_laws.proofs.steps.all_steps_stay_steady.Goals as goal

pub returns : goal.returns
returns c = all_steps_stay_steady
