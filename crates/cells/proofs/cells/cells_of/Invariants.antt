use Rattle.std.proofs.Common.{take}
use Rattle.cells.specs.Cells.{AreCells}
use Rattle.cells.proofs.cells.cells_of.Given as goal

abbrev pub invariant-loop-atom : goal.invariant-loop-atom
invariant-loop-atom l = AreCells (take l.atom-index l.atoms) l.cells
