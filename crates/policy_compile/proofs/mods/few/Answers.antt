use Rattle.std.proofs.Common.{refl, arith}
use Rattle.policy_compile.proofs.ModsLemmas.{wide-keys, few-keys}
use Rattle.policy_compile.proofs.mods.few.Goals as goal

pub returns-then-len-gt-MOST : goal.returns-then-len-gt-MOST
returns-then-len-gt-MOST c = wide-keys c.args.sets.keys c.args.sets.keys c.len.ensures.unique (λ f k. k) (omega (arith, c.if-len-gt-MOST.true, c.len.ensures.len))

pub returns-else-len-gt-MOST : goal.returns-else-len-gt-MOST
returns-else-len-gt-MOST c = (refl, few-keys c.args.sets.keys (omega (arith, c.if-len-gt-MOST.false, c.len.ensures.len)))
