-- The cell has the list with its number.
use Rattle.std.proofs.Common.{◌≡◌, ◌<◌, Some, ap, arith, length, refl, ◌∙◌}
use Rattle.std.specs.List.{slice_get}
use Rattle.std.proofs.lemmas.Option.{slice_get_read, slice_get_within}
use Rattle.classifier.proofs.NumberLemmas.{numbered_at, numbered_length}
use Rattle.block_build.proofs.ByCellLemmas.{ok-map}
use Rattle.block_build.proofs.few.results_at.Goals as goal

pub returns-then-cell-len : goal.returns-then-cell-len
returns-then-cell-len c = ok-map c.list_of.result _ _ (λ r read zs z are at.
    let few = c.args.few.now in
    let numbers = few.numbers.items in
    let n = c.index.result.now in
    let lt : c.args.cell < length numbers = omega (arith, c.if-cell-len.true, c.len.ensures, few.numbers.ok.0) in
    let number : slice_get numbers c.args.cell ≡ Some n = slice_get_read numbers (length numbers) c.args.cell n refl lt c.index.ensures in
    read z.results (ap (λ lists. slice_get lists n) c.deref.ensures.value ∙ numbered_at few.table.lists.items zs numbers c.args.cell z n are at number)) c.list_of.ensures

pub returns-else-cell-len : goal.returns-else-cell-len
returns-else-cell-len c = λ zs z are at.
    let few = c.args.few.now in
    let long : length few.numbers.items ≡ length zs = numbered_length few.table.lists.items zs few.numbers.items are in
    let lt : c.args.cell < length zs = slice_get_within zs c.args.cell z at in
    absurd (omega (arith, c.if-cell-len.false, c.len.ensures, few.numbers.ok.0, long, lt))
