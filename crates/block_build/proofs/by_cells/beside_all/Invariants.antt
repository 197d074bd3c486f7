-- What is left makes the whole; the tables are right, the cells keep their cubes, and all that they give leaves by the ports.
use Rattle.std.proofs.Common.{◌≡◌, ◌≤◌, ◌-◌, drop, length}
use Rattle.cells.specs.Firsts.{firsts}
use Rattle.classifier.specs.Meaning.{cubes_of}
use Rattle.block_build.specs.ByCells.{beside_all, dropping}
use Rattle.block_build.specs.Ports.{AllTaken}
use Rattle.block_build.specs.Tables.{AreTables}
use Rattle.block_build.proofs.by_cells.beside_all.Given as goal

abbrev pub invariant-loop-next : goal.invariant-loop-next
invariant-loop-next l = record {
  whole :
      beside_all l.sending.best l.sending.offers.now l.sending.rules.now l.all.items (drop l.next l.receivers)
      ≡ beside_all l.sending.best l.sending.offers.now l.sending.rules.now (dropping l.fn.inside.cells.now) l.receivers;
  own : l.own.items ≡ firsts (cubes_of l.sending.rules.now) l.cells;
  within : l.next ≤ length l.receivers;
  cubes : cubes_of l.all.items ≡ l.cells;
  tables : AreTables l.inside.cells.now l.tables.all.items;
  cells : l.inside.cells.now ≡ l.cells;
  same : l.cells ≡ l.fn.inside.cells.now;
  taken : AllTaken l.ports l.all.items;
}

abbrev pub decreases-loop-next : goal.decreases-loop-next
decreases-loop-next l = length l.receivers - l.next
