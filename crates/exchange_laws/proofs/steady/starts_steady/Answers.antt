use Rattle.exchange_laws.proofs.SteadySteps.{starts_steady}
use Rattle.exchange_laws.proofs.steady.starts_steady.Goals as goal

pub returns : goal.returns
returns c = starts_steady
