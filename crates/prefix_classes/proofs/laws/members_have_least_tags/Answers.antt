use Rattle.prefix_classes.proofs.MergeLemmas.{members_have_least}
use Rattle.prefix_classes.proofs.laws.members_have_least_tags.Goals as goal

pub returns : goal.returns
returns c = members_have_least
