use Rattle.std.proofs.Common.{arith, ◌≡◌, ◌/◌, true}
use Rattle.place_sets.specs.Places.{has_place}
use Rattle.cells.proofs.MarkLemmas.{IsBelow, noted-as, words-more, words-skipped}
use Rattle.cells.proofs.firsts.note_blocks.Goals as goal
use Rattle.cells.proofs.firsts.note_blocks.Goals.{then-not-is_empty_at+in_ok-note_word, else-not-is_empty_at}

pub loop-word-preserved : goal.loop-word-preserved
loop-word-preserved c =
    let place = c.args.place in
    let cube = c.args.cube.now in
    let cells = c.args.cells.now in
    let blocks = c.args.blocks.now in
    let old = c.args.found.now.items in
    let mid = c.loop-word.found.items in
    let word = c.loop-word.word in
    elim c.if-not-is_empty_at.branch [
      | then-not-is_empty_at+in_ok-note_word w ↦ rw (w.found-is, w.full-is)
          (words-more place cube cells blocks word old mid w.note_word.new.found.items c.loop-word.invariant.0 w.in_ok-note_word.ensures.noted, w.in_ok-note_word.ensures.full)
      | else-not-is_empty_at w ↦ rw (w.found-is, w.full-is)
          (words-skipped place cube cells blocks word old mid (c.is_empty_at.ensures w.if-not-is_empty_at.false) c.loop-word.invariant.0, c.loop-word.invariant.1)
    ]

pub returns-clause-noted : goal.returns-clause-noted
returns-clause-noted c =
    let blocks = c.args.blocks.now in
    noted-as c.args.place c.args.cube.now c.args.cells.now (IsBelow blocks c.loop-word.word) (λ p. has_place blocks (p / 64) ≡ true) c.args.found.now.items c.loop-word.found.items
    (λ p within m.
    let low = c.blocks_of-word-end.ensures.all (p / 64) (c.blocks_of.ensures.all p within) in
    (omega (arith, low, c.loop-word-test.false), m)) c.loop-word.invariant.0
