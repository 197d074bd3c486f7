use Rattle.prefix_classes.proofs.MergeLemmas.{merged_keep}
use Rattle.prefix_classes.proofs.laws.merged_prefixes_keep_signatures.Goals as goal

pub returns : goal.returns
returns c = merged_keep
