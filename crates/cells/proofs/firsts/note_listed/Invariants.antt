-- The places of the list so far.
use Rattle.std.proofs.Common.{take}
use Rattle.cells.specs.Listed.{is_listed}
use Rattle.cells.specs.Marks.{AreGiven}
use Rattle.cells.proofs.firsts.note_listed.Given as goal

abbrev pub invariant-loop-i : goal.invariant-loop-i
invariant-loop-i l = AreGiven l.place (is_listed (take l.i l.listed)) l.fn.found.items l.found.items
