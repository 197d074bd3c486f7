use Rattle.std.proofs.Common.{arith, ◌≡◌, ◌*◌, ◌/◌, true, sym, ◌∙◌}
use Rattle.place_sets.specs.Places.{has_place}
use Rattle.cells.proofs.MarkLemmas.{IsFrom, blocks-more, blocks-skipped, found-more, found-put, noted-as}
use Rattle.cells.proofs.firsts.note_word.Goals as goal
use Rattle.cells.proofs.firsts.note_word.Goals.{then-has+then-note_block+in_ok-put, else-has, else-has-via-then-has+else-note_block, else-has-via-else-has}

pub loop-block-preserved : goal.loop-block-preserved
loop-block-preserved c =
    let place = c.args.place in
    let cube = c.args.cube.now in
    let cells = c.args.cells.now in
    let blocks = c.args.blocks.now in
    let old = c.args.found.now.items in
    let mid = c.loop-block.found.items in
    let start = c.args.word * 64 in
    let b = c.loop-block.block in
    let full = c.loop-block.full in
    elim c.if-has.branch [
      | then-has+then-note_block+in_ok-put w ↦
          let new = w.note_block.new.found.items in
          rw (w.found-is, w.full-is) (
            blocks-more place cube cells blocks start b old mid new c.loop-block.invariant.0 w.note_block.ensures.noted,
            found-put cells new full w.put.new.self b w.in_ok-put.ensures.put (w.note_block.ensures.full w.if-note_block.true)
                (found-more place cube cells (λ p. p / 64 ≡ b) mid new full w.note_block.ensures.noted c.loop-block.invariant.1),
          )
      | else-has w ↦ rw (w.found-is, w.full-is) (elim w.else-has.branch [
        | else-has-via-then-has+else-note_block v ↦
            let new = v.note_block.new.found.items in
            rw v.found-is (
              blocks-more place cube cells blocks start b old mid new c.loop-block.invariant.0 v.note_block.ensures.noted,
              found-more place cube cells (λ p. p / 64 ≡ b) mid new full v.note_block.ensures.noted c.loop-block.invariant.1,
            )
        | else-has-via-else-has v ↦ rw v.found-is (blocks-skipped place cube cells blocks start b old mid (sym c.has.ensures ∙ v.if-has.false) c.loop-block.invariant.0, c.loop-block.invariant.1)
      ])
    ]

pub returns-clause-noted : goal.returns-clause-noted
returns-clause-noted c =
    let blocks = c.args.blocks.now in
    let start = c.args.word * 64 in
    let end = c.loop-block.block in
    noted-as c.args.place c.args.cube.now c.args.cells.now (IsFrom blocks start end) (λ p. (p / 64 / 64 ≡ c.args.word) × (has_place blocks (p / 64) ≡ true)) c.args.found.now.items c.loop-block.found.items
    (λ p within m.
    let low = c.blocks_of.ensures.all p within in
    (omega (arith, m.0), omega (arith, m.0, low, c.loop-block-test.false, c.min-count.ensures), m.1)) c.loop-block.invariant.0

pub note_block-requires-clause-begun : goal.note_block-requires-clause-begun
note_block-requires-clause-begun c =
    let last = c.blocks_of.ensures.all (c.args.word * 64 * 64) c.requires.begun in
    c.blocks_of.ensures.begun c.loop-block.block (omega (arith, last, c.loop-block-test.true, c.min-count.ensures))
