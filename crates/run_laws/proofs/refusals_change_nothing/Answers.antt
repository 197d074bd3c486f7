use Rattle.run_laws.proofs.Refusing.{refusals_change_nothing}
use Rattle.run_laws.proofs.refusals_change_nothing.Goals as goal

pub returns : goal.returns
returns c = refusals_change_nothing
