use Rattle.std.proofs.Common.{◌<◌, sym, ◌∙◌, arith}
use Rattle.prefix_map.specs.Halves.{middle}
use Rattle.std.proofs.lemmas.Bool.{ltb-true}
use Rattle.prefix_map.proofs.HalfLemmas.{left_longer, right_longer, in_lower, is_low, begins}
use Rattle.prefix_map.proofs.place.+common_within.Goals as goal

pub lower_half-requires : goal.lower_half-requires
lower_half-requires t c =
    let longer = left_longer c.args.within c.args.left c.args.right c.requires.left c.requires.right c.requires.apart in
    let short = c.args.left.short in
    omega (arith, longer, short)

pub common_within-requires : goal.common_within-requires
common_within-requires t c =
    let longer = left_longer c.args.within c.args.left c.args.right c.requires.left c.requires.right c.requires.apart in
    let right_more = right_longer c.args.within c.args.left c.args.right c.requires.left c.requires.right c.requires.apart in
    let below : c.args.right.address.0 < middle c.args.within = ltb-true _ _ (sym c.is_below.ensures ∙ c.if-is_below.true) in
    let some = begins c.args.left in
    let apart = c.requires.apart in
    let less : c.args.left.address.0 < middle c.args.within = omega (arith, below, some, apart) in
    let short = c.args.left.short in
    let len = c.lower_half.ensures.len in (
      omega (arith, longer, short, len),
      (
        in_lower c.args.within c.lower_half.result c.args.left c.requires.left longer c.lower_half.ensures.address c.lower_half.ensures.len c.lower_half.ensures.past less,
        (
          in_lower c.args.within c.lower_half.result c.args.right c.requires.right right_more c.lower_half.ensures.address c.lower_half.ensures.len c.lower_half.ensures.past below,
          c.requires.apart,
        ),
      ),
    )

pub returns-then-is_below-2-clause-low : goal.returns-then-is_below-2-clause-low
returns-then-is_below-2-clause-low t c =
    let longer = left_longer c.args.within c.args.left c.args.right c.requires.left c.requires.right c.requires.apart in
    is_low c.args.within c.args.left longer c.requires.left.from (ltb-true _ _ (sym c.is_below-2.ensures ∙ c.if-is_below-2.true))
