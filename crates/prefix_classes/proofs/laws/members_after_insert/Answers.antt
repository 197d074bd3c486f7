use Rattle.prefix_classes.proofs.MemberLemmas.{members-insert}
use Rattle.prefix_classes.proofs.laws.members_after_insert.Goals as goal

pub returns : goal.returns
returns c = members-insert
