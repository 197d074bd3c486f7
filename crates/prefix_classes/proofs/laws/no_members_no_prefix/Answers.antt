use Rattle.prefix_classes.proofs.MemberLemmas.{no_members}
use Rattle.prefix_classes.proofs.laws.no_members_no_prefix.Goals as goal

pub returns : goal.returns
returns c = no_members
