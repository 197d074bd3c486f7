-- The cells so far have the number of no results.
use Rattle.std.proofs.Common.{take}
use Rattle.classifier.specs.Numbered.{AreNumbered}
use Rattle.block_build.specs.ByCells.{dropping}
use Rattle.block_build.proofs.few.nothing.Given as goal

abbrev pub invariant-loop-cell : goal.invariant-loop-cell
invariant-loop-cell l = AreNumbered l.table.lists.items (dropping (take l._cell-index l.cells)) l.numbers.items
