-- What was looked at is free; the others are left.
use Rattle.std.proofs.Common.{◌≡◌, ◌⊎◌, false, drop}
use Rattle.classifier.specs.Items.{Item}
use Rattle.net_types.specs.Sets.{Member}
use Rattle.block_build.specs.Ports.{is_taken}
use Rattle.block_build.proofs.ports.are_free.Given as goal

abbrev pub invariant-loop-pair : goal.invariant-loop-pair
invariant-loop-pair l = (i : Item) → Member i l.items → (is_taken l.ports i.1 ≡ false) ⊎ Member i (drop l.pair-index l.items)
