use Rattle.std.proofs.Common.{refl}
use Rattle.net_types.proofs.MemberLemmas.{Member-at}
use Rattle.policy_compile.proofs.rows.joined_of.Goals as goal

pub list_of-requires : goal.list_of-requires
list_of-requires c = c.requires.inside _ (Member-at c.args.numbers.now c.loop-number.number-index 0 _ c.loop-number-test.true refl)
