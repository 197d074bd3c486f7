use Rattle.prefix_classes.proofs.KeepLemmas.{new_ones_are_few}
use Rattle.prefix_classes.proofs.laws.new_ones_are_few.Goals as goal

pub returns : goal.returns
returns c = new_ones_are_few
