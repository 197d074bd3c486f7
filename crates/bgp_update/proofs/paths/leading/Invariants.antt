-- The segments so far and the leading part of what is left make the whole.
use Rattle.std.proofs.Common.{◌≡◌, ◌++◌, length}
use Rattle.net_types.specs.Paths.{leading}
use Rattle.bgp_update.proofs.paths.leading.Given as goal

abbrev pub invariant-loop-rest : goal.invariant-loop-rest
invariant-loop-rest l = l.front.items ++ leading l.left l.rest ≡ leading l.count l.path

abbrev pub decreases-loop-rest : goal.decreases-loop-rest
decreases-loop-rest l = length l.rest
