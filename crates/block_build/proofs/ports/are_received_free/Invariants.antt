-- The ports of what was looked at aren't taken; the others are left.
use Rattle.std.proofs.Common.{◌⊎◌, drop}
use Rattle.classifier.specs.Items.{Item}
use Rattle.net_types.specs.Sets.{Member}
use Rattle.block_build.specs.Ports.{GoesFree}
use Rattle.block_build.proofs.ports.are_received_free.Given as goal

abbrev pub invariant-loop-pair : goal.invariant-loop-pair
invariant-loop-pair l = (i : Item) → Member i l.items → GoesFree l.ports i ⊎ Member i (drop l.pair-index l.items)
