-- The numbers so far and those of what is left are all.
use Rattle.std.proofs.Common.{◌≡◌, ◌++◌, length}
use Rattle.net_types.specs.UpdateFormat.{longs}
use Rattle.bgp_update.proofs.octets.longs.Given as goal

abbrev pub invariant-loop-left : goal.invariant-loop-left
invariant-loop-left l = l.all ++ longs l.left ≡ longs l.octets

abbrev pub decreases-loop-left : goal.decreases-loop-left
decreases-loop-left l = length l.left
