-- What was looked at is taken; the others are left.
use Rattle.std.proofs.Common.{◌≡◌, ◌⊎◌, true, drop}
use Rattle.classifier.specs.Items.{Item}
use Rattle.net_types.specs.Sets.{Member}
use Rattle.block_build.specs.Ports.{KeepPorts, is_taken}
use Rattle.block_build.proofs.ports.take_items.Given as goal

abbrev pub invariant-loop-pair : goal.invariant-loop-pair
invariant-loop-pair l = record {
  taken : (i : Item) → Member i l.items → (is_taken l.ports i.1 ≡ true) ⊎ Member i (drop l.pair-index l.items);
  kept : KeepPorts l.fn.ports l.ports;
}
