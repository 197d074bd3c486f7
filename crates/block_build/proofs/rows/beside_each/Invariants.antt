-- The cells that were taken are beside what the receivers make; the others are left.
use Rattle.std.proofs.Common.{◌≡◌, ◌++◌, map}
use Rattle.block_build.specs.ByCells.{beside_them}
use Rattle.block_build.proofs.rows.beside_each.Given as goal

abbrev pub invariant-loop-z : goal.invariant-loop-z
invariant-loop-z l = record {
  made : l.more.items ≡ map (beside_them l.sent.sending.now.best l.sent.sending.now.offers.now l.sent.sending.now.rules.now l.receivers) l.yielded;
  left : l.yielded ++ l.z-iterator.rest.items ≡ l.fn.lines.items;
}
