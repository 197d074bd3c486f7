use Rattle.std.proofs.Common.{arith, sym, ◌∙◌}
use Rattle.std.proofs.lemmas.Option.{slice_get_within}
use Rattle.cells.proofs.ListedLemmas.{listed-block, listed-skipped}
use Rattle.cells.proofs.listed.listed_in.Goals as goal
use Rattle.cells.proofs.listed.listed_in.Goals.{then-has+in_ok-push_block, else-has}

pub loop-block-preserved : goal.loop-block-preserved
loop-block-preserved c =
    let cells = c.args.cells.now in
    let cube = c.args.cube.now in
    let blocks = c.args.blocks.now in
    let old = c.loop-block.places.items in
    let b = c.loop-block.block in
    elim c.if-has.branch [
      | then-has+in_ok-push_block w ↦ rw w.places-is (listed-block cells cube blocks b old w.push_block.new.places.items w.in_ok-push_block.ensures.kept w.in_ok-push_block.ensures.these c.loop-block.invariant.0, w.in_ok-push_block.ensures.only)
      | else-has w ↦ rw w.places-is (listed-skipped cells cube blocks b old (sym c.has.ensures ∙ w.if-has.false) c.loop-block.invariant.0, c.loop-block.invariant.1)
    ]

pub returns-clause-these : goal.returns-clause-these
returns-clause-these c = λ p cell m at inside.
    let low = c.blocks_of-block-end.ensures.all p (slice_get_within c.args.cells.now p cell at) in
    c.loop-block.invariant.0 p cell (omega (arith, low, c.loop-block-test.false), m) at inside
