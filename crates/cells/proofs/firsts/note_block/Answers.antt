use Rattle.std.proofs.Common.{arith, ◌≡◌, ◌<◌, ◌≤◌, ◌*◌, ◌/◌, ◌&&◌, ℕ, Option, Some, None, length, refl, sym, ap}
use Rattle.std.specs.List.{slice_get}
use Rattle.std.proofs.lemmas.Option.{get_or_from_slice_get, slice_get_read}
use Rattle.cells.specs.Marks.{found_at}
use Rattle.cells.proofs.MarkLemmas.{noted-as, so-far-more}
use Rattle.cells.proofs.firsts.note_block.Goals as goal

pub loop-i-preserved : goal.loop-i-preserved
loop-i-preserved c =
    let cells = c.args.cells.now in
    let mid = c.loop-i.found.items in
    let n = c.loop-i.i in
    let x = c.index-cells-i.result in
    let o : Option ℕ = c.index.result.now in
    let long = c.loop-i.invariant.noted.long in
    let inside : n < length cells = omega (arith, c.loop-i-test.true, c.min-count.ensures, c.requires.begun) in
    let within : n < length mid = omega (arith, inside, long, c.requires.long) in
    let at : slice_get cells n ≡ Some x = slice_get_read cells (length cells) n x refl inside c.index-cells-i.is in
    let was : o ≡ found_at mid n = sym (get_or_from_slice_get mid n o None (slice_get_read mid (length mid) n o refl within c.index.ensures)) in
    so-far-more c.args.place c.args.cube.now cells (c.args.block * 64) n c.args.found.now.items mid x o c.noted-first.result c.loop-i.is_full
    (c.loop-i.is_full && c.is_some-is_full.result) within at was c.noted-first.ensures (ap (λ b. c.loop-i.is_full && b) c.is_some-is_full.ensures) c.loop-i.invariant

pub returns-clause-noted : goal.returns-clause-noted
returns-clause-noted c =
    let start = c.args.block * 64 in
    let end = c.loop-i.i in
    noted-as c.args.place c.args.cube.now c.args.cells.now (λ p. (start ≤ p) × (p < end)) (λ p. p / 64 ≡ c.args.block) c.args.found.now.items c.loop-i.found.items
    (λ p within m. (omega (arith, m), omega (arith, m, within, c.loop-i-test.false, c.min-count.ensures, c.requires.begun))) c.loop-i.invariant.noted
