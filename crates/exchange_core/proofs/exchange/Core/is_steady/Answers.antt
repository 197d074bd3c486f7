use Rattle.std.proofs.Common.{subst}
use Rattle.exchange_laws.specs.Steady.{IsSteady}
use Rattle.exchange_core.proofs.exchange.Core.is_steady.Goals as goal

pub returns : goal.returns
returns c = subst IsSteady c.self.view_is c.self.invariant.kept.steady
