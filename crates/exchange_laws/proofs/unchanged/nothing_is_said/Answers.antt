use Rattle.exchange_laws.proofs.SameRoutes.{nothing_is_said}
use Rattle.exchange_laws.proofs.unchanged.nothing_is_said.Goals as goal

pub returns : goal.returns
returns c = nothing_is_said
