use Rattle.prefix_classes.proofs.ChangeLemmas.{tags_after_changes}
use Rattle.prefix_classes.proofs.laws.tags_after_changes.Goals as goal

pub returns : goal.returns
returns c = tags_after_changes
