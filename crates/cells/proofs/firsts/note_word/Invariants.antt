-- The blocks so far.
use Rattle.cells.specs.Marks.{AreFound, AreNoted}
use Rattle.cells.proofs.MarkLemmas.{IsFrom}
use Rattle.cells.proofs.firsts.note_word.Given as goal

abbrev pub invariant-loop-block : goal.invariant-loop-block
invariant-loop-block l = AreNoted l.place l.cube l.cells (IsFrom l.blocks l.start l.block) l.fn.found.items l.found.items × AreFound l.cells l.found.items l.full
