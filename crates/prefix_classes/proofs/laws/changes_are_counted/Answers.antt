use Rattle.prefix_classes.proofs.ChangeLemmas.{changes_are_counted}
use Rattle.prefix_classes.proofs.laws.changes_are_counted.Goals as goal

pub returns : goal.returns
returns c = changes_are_counted
