use Rattle.exchange_laws.proofs.Bases.{steady_are_bases}
use Rattle.exchange_laws.proofs.editing.steady_states_are_bases.Goals as goal

pub returns : goal.returns
returns c = steady_are_bases
