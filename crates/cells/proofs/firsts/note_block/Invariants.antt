-- The cells of the block so far.
use Rattle.cells.proofs.MarkLemmas.{SoFar}
use Rattle.cells.proofs.firsts.note_block.Given as goal

abbrev pub invariant-loop-i : goal.invariant-loop-i
invariant-loop-i l = SoFar l.place l.cube l.cells l.start l.i l.fn.found.items l.found.items l.is_full
