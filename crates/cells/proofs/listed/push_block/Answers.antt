use Rattle.std.proofs.Common.{arith, ◌≡◌, ◌<◌, ◌*◌, Some, [], ◌∷◌, ◌++◌, length, refl, sym, ap, ◌∙◌}
use Rattle.std.specs.List.{slice_get}
use Rattle.std.proofs.lemmas.Option.{slice_get_read, slice_get_within}
use Rattle.cells.specs.Listed.{is_listed}
use Rattle.cells.proofs.ListedLemmas.{front-listed, listed-left, listed-push, only-push}
use Rattle.cells.proofs.listed.push_block.Goals as goal
use Rattle.cells.proofs.listed.push_block.Goals.{then-within+in_ok-push, else-within}

pub loop-place-preserved : goal.loop-place-preserved
loop-place-preserved c =
    let cells = c.args.cells.now in
    let cube = c.args.cube.now in
    let start = c.args.block * 64 in
    let n = c.loop-place.place in
    let x = c.index-cells-place.result in
    let old = c.loop-place.places.items in
    let within : n < length cells = omega (arith, c.loop-place-test.true, c.min-count.ensures, c.requires.begun) in
    let at : slice_get cells n ≡ Some x = slice_get_read cells (length cells) n x refl within c.index-cells-place.is in
    elim c.if-within.branch [
      | then-within+in_ok-push w ↦
          let more : w.push.new.self.items ≡ old ++ n ∷ [] = w.in_ok-push.ensures.items in
          rw w.places-is (
            listed-push cells cube start n old w.push.new.self.items more c.loop-place.invariant.0,
            only-push cells cube n x old w.push.new.self.items more at (sym c.within.ensures.value ∙ w.if-within.true) c.loop-place.invariant.1,
            λ p there. ap (λ xs. is_listed xs p) more ∙ front-listed old (n ∷ []) p (c.loop-place.invariant.2 p there),
          )
      | else-within w ↦ rw w.places-is (listed-left cells cube start n x old at (sym c.within.ensures.value ∙ w.if-within.false) c.loop-place.invariant.0, c.loop-place.invariant.1, c.loop-place.invariant.2)
    ]

pub returns-clause-these : goal.returns-clause-these
returns-clause-these c = λ p cell m at inside.
    let within = slice_get_within c.args.cells.now p cell at in
    c.loop-place.invariant.0 p cell (omega (arith, m), omega (arith, m, within, c.loop-place-test.false, c.min-count.ensures, c.requires.begun)) at inside
