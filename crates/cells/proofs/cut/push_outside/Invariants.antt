use Rattle.std.proofs.Common.{◌≡◌, ◌++◌, drop}
use Rattle.cells.specs.Cells.{outside}
use Rattle.cells.proofs.cut.push_outside.Given as goal

-- what is left makes the whole
abbrev pub invariant-loop-other : goal.invariant-loop-other
invariant-loop-other l = l.all.items ++ outside l.atom (drop l.other-index l.cubes) ≡ l.fn.all.items ++ outside l.atom l.cubes
