use Rattle.exchange_laws.proofs.SteadySteps.{steps_stay_steady}
use Rattle.exchange_laws.proofs.steady.steps_stay_steady.Goals as goal

pub returns : goal.returns
returns c = steps_stay_steady
