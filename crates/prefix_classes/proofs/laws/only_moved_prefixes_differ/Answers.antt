use Rattle.prefix_classes.proofs.MergeLemmas.{only_moved}
use Rattle.prefix_classes.proofs.laws.only_moved_prefixes_differ.Goals as goal

pub returns : goal.returns
returns c = only_moved
