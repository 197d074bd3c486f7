-- The words so far.
use Rattle.cells.specs.Marks.{AreFound, AreNoted}
use Rattle.cells.proofs.MarkLemmas.{IsBelow}
use Rattle.cells.proofs.firsts.note_blocks.Given as goal

abbrev pub invariant-loop-word : goal.invariant-loop-word
invariant-loop-word l = AreNoted l.place l.cube l.cells (IsBelow l.blocks l.word) l.fn.found.items l.found.items × AreFound l.cells l.found.items l.full
