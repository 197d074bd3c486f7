-- What goes there is still to come.
use Rattle.std.proofs.Common.{◌≡◌, drop}
use Rattle.classifier.specs.Items.{Item}
use Rattle.net_types.specs.Sets.{Member}
use Rattle.block_build.proofs.receive.none_goes.Given as goal

abbrev pub invariant-loop-pair : goal.invariant-loop-pair
invariant-loop-pair l = (i : Item) → Member i l.items → i.1 ≡ l.loc → Member i (drop l.pair-index l.items)
