use Rattle.prefix_classes.proofs.MemberLemmas.{members-remove}
use Rattle.prefix_classes.proofs.laws.members_after_remove.Goals as goal

pub returns : goal.returns
returns c = members-remove
