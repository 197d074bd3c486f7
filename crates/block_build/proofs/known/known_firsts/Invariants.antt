-- The receivers so far are known.
use Rattle.std.proofs.Common.{◌≡◌, length, take}
use Rattle.block_build.specs.Known.{AreKnown}
use Rattle.block_build.specs.Tables.{AreTables}
use Rattle.block_build.proofs.known.known_firsts.Given as goal

abbrev pub invariant-loop-receiver : goal.invariant-loop-receiver
invariant-loop-receiver l = record {
  known : AreKnown l.fn.inside.cells.now l.fn.ports l.all.items (take l.receiver-index l.receivers) l.ports;
  many : length l.all.items ≡ l.receiver-index;
  tables : AreTables l.inside.cells.now l.tables.all.items;
  cells : l.inside.cells.now ≡ l.fn.inside.cells.now;
}
