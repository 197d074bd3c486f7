use Rattle.exchange_laws.proofs.AcceptedChanges.{nothing_is_rerouted}
use Rattle.exchange_laws.proofs.reroutings.nothing_is_rerouted.Goals as goal

pub returns : goal.returns
returns c = nothing_is_rerouted
