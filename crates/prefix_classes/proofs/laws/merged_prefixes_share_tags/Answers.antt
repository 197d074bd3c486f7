use Rattle.prefix_classes.proofs.MergeLemmas.{merged_share}
use Rattle.prefix_classes.proofs.laws.merged_prefixes_share_tags.Goals as goal

pub returns : goal.returns
returns c = merged_share
