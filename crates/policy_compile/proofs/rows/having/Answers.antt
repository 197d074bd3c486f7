use Rattle.std.proofs.Common.{refl}
use Rattle.net_types.proofs.MemberLemmas.{Member-at}
use Rattle.policy_compile.proofs.rows.having.Goals as goal

pub is_in-requires : goal.is_in-requires
is_in-requires c = c.requires _ (Member-at c.args.numbers.now c.loop-number.number-index 0 _ c.loop-number-test.true refl)
