use Rattle.exchange_laws.proofs.SteadySteps.{runs_stay_steady}
use Rattle.exchange_laws.proofs.steady.runs_stay_steady.Goals as goal

pub returns : goal.returns
returns c = runs_stay_steady
