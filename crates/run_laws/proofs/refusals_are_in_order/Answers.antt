use Rattle.run_laws.proofs.Leaving.{refusals_are_in_order}
use Rattle.run_laws.proofs.refusals_are_in_order.Goals as goal

pub returns : goal.returns
returns c = refusals_are_in_order
