use Rattle.prefix_classes.proofs.MergeLemmas.{least_has_members}
use Rattle.prefix_classes.proofs.laws.least_tags_have_members.Goals as goal

pub returns : goal.returns
returns c = least_has_members
