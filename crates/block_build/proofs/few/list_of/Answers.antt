-- The list at the number is the one that was read.
use Rattle.std.proofs.Common.{◌<◌, arith, length, ◌∙◌}
use Rattle.std.proofs.lemmas.Option.{get_or_from_slice_get, slice_get_within}
use Rattle.block_build.proofs.ByCellLemmas.{ok-map}
use Rattle.block_build.proofs.few.list_of.Goals as goal

pub returns-then-number-lists : goal.returns-then-number-lists
returns-then-number-lists c = ok-map c.copy.result _ _ (λ r same items at. same ∙ c.index-lists-number.is ∙ get_or_from_slice_get c.args.lists.now c.args.number items c.index-lists-number.result at) c.copy.ensures

pub returns-else-number-lists : goal.returns-else-number-lists
returns-else-number-lists c = λ items at.
    let lt : c.args.number < length c.args.lists.now = slice_get_within c.args.lists.now c.args.number items at in
    absurd (omega (arith, lt, c.if-number-lists.false))
