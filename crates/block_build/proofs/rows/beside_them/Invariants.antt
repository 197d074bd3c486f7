-- The receivers that are left make the whole of what there is; they are known beside that.
use Rattle.std.proofs.Common.{◌≡◌, ◌∷◌, [], drop}
use Rattle.classifier.specs.Lines.{line}
use Rattle.net_types.specs.Sets.{HasNoRepeats}
use Rattle.block_build.specs.ByCells.{beside_them}
use Rattle.block_build.specs.Known.{AreKnownBeside}
use Rattle.block_build.proofs.rows.beside_them.Given as goal

abbrev pub invariant-loop-i : goal.invariant-loop-i
invariant-loop-i l = record {
  whole :
      beside_them l.sent.sending.now.best l.sent.sending.now.offers.now l.sent.sending.now.rules.now (drop l.i l.receivers) (line l.row.items l.cube)
      ≡ beside_them l.sent.sending.now.best l.sent.sending.now.offers.now l.sent.sending.now.rules.now l.receivers l.fn.z;
  once : HasNoRepeats l.row.items;
  known : AreKnownBeside l.sent.cells.now (line l.row.items l.cube ∷ []) (drop l.i l.known) (drop l.i l.receivers);
}
