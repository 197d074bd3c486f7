use Rattle.std.proofs.Common.{arith, ◌≡◌, Some, length, refl, sym, ◌∙◌}
use Rattle.std.specs.List.{slice_get}
use Rattle.std.proofs.lemmas.Option.{slice_get_read, slice_get_within}
use Rattle.cells.proofs.BlockLemmas.{before-left}
use Rattle.cells.proofs.blocks.blocks_within.Goals as goal

pub loop-place-preserved : goal.loop-place-preserved
loop-place-preserved c =
    let cells = c.args.cells.now in
    let n = c.loop-place.place in
    let x = c.index-cells-place.result in
    let at : slice_get cells n ≡ Some x = slice_get_read cells (length cells) n x refl c.loop-place-test.true c.index-cells-place.is in
    before-left cells c.args.outer.now c.loop-place.blocks n x at (sym c.within.ensures.value ∙ c.if-within.false) c.loop-place.invariant

pub returns : goal.returns
returns c = λ p x there.
    let inside = slice_get_within c.args.cells.now p x there in
    c.loop-place.invariant p x there (omega (arith, inside, c.loop-place-test.false))
