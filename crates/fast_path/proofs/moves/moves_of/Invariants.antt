-- those among the prefixes so far, and the tags that these had
use Rattle.std.proofs.Common.{◌≡◌, take}
use Rattle.fast_path.specs.Emptied.{old_tags}
use Rattle.fast_path.specs.Offers.{others}
use Rattle.fast_path.proofs.moves.moves_of.Given as goal

abbrev pub invariant-loop-change : goal.invariant-loop-change
invariant-loop-change l = record {
  changes : l.moves.changes ≡ others l.known (take l.change-index l.tagged);
  left : l.moves.left.items ≡ old_tags l.known.tag l.moves.changes;
}
