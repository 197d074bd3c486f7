use Rattle.events.proofs.Drained.{answers_told}
use Rattle.events.proofs.laws.told_tags_are_answered.Goals as goal

pub returns : goal.returns
returns c = answers_told
