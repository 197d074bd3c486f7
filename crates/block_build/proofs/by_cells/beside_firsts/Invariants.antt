-- The cells beside what the receivers so far make; the tables are right.
use Rattle.std.proofs.Common.{◌≡◌, ◌≤◌, ◌-◌, length}
use Rattle.classifier.specs.Numbered.{AreNumbered}
use Rattle.block_build.specs.ByCells.{beside_first}
use Rattle.block_build.specs.Tables.{AreTables}
use Rattle.block_build.proofs.by_cells.beside_firsts.Given as goal

abbrev pub invariant-loop-n : goal.invariant-loop-n
invariant-loop-n l = record {
  numbered : AreNumbered l.few.table.lists.items (beside_first l.sending.best l.sending.offers.now l.sending.rules.now l.cells l.receivers l.n) l.few.numbers.items;
  within : l.n ≤ length l.receivers;
  tables : AreTables l.cells l.tables.all.items;
  cells : l.inside.cells.now ≡ l.cells;
}

abbrev pub decreases-loop-n : goal.decreases-loop-n
decreases-loop-n l = length l.receivers - l.n
