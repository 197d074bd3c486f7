use Rattle.events.proofs.Drained.{answers_drained}
use Rattle.events.proofs.laws.drained_senders_are_answered.Goals as goal

pub returns : goal.returns
returns c = answers_drained
