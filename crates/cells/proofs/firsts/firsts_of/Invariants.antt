-- The cubes so far.
use Rattle.std.proofs.Common.{◌≡◌, take}
use Rattle.cells.specs.Firsts.{firsts}
use Rattle.cells.specs.Marks.{AreLeft}
use Rattle.cells.proofs.firsts.firsts_of.Given as goal

abbrev pub invariant-loop-place : goal.invariant-loop-place
invariant-loop-place l = (l.found.items ≡ firsts (take l.place l.cubes) l.fn.inside.cells.now) × AreLeft l.fn.inside.cells.now l.found.items l.left × (l.inside.cells.now ≡ l.fn.inside.cells.now)
