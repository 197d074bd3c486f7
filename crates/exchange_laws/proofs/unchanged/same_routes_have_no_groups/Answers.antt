use Rattle.exchange_laws.proofs.SameRoutes.{no_groups}
use Rattle.exchange_laws.proofs.unchanged.same_routes_have_no_groups.Goals as goal

pub returns : goal.returns
returns c = no_groups
