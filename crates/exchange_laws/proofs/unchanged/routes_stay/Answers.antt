use Rattle.exchange_laws.proofs.SameRoutes.{routes_stay}
use Rattle.exchange_laws.proofs.unchanged.routes_stay.Goals as goal

pub returns : goal.returns
returns c = routes_stay
