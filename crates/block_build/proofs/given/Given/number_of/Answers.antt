-- The rule at the place has that number.
use Rattle.std.proofs.Common.{◌≡◌, ◌<◌, arith, length, refl}
use Rattle.std.proofs.lemmas.Option.{slice_get_read, slice_get_within}
use Rattle.classifier.proofs.NumberLemmas.{numbered_at, numbered_length}
use Rattle.block_build.proofs.given.Given.number_of.Goals as goal

pub returns-then-place-len : goal.returns-then-place-len
returns-then-place-len c = λ ys y are at.
    let self = c.args.self.now in
    let numbers = self.numbers.items in
    let n = c.index.result.now in
    let lt : c.args.place < length numbers = omega (arith, c.if-place-len.true, c.len.ensures, self.numbers.ok.0) in
    numbered_at self.table.lists.items ys numbers c.args.place y n are at (slice_get_read numbers (length numbers) c.args.place n refl lt c.index.ensures)

pub returns-else-place-len : goal.returns-else-place-len
returns-else-place-len c = λ ys y are at.
    let self = c.args.self.now in
    let long : length self.numbers.items ≡ length ys = numbered_length self.table.lists.items ys self.numbers.items are in
    let lt : c.args.place < length ys = slice_get_within ys c.args.place y at in
    absurd (omega (arith, c.if-place-len.false, c.len.ensures, self.numbers.ok.0, long, lt))
