use Rattle.std.proofs.Common.{◌≡◌, ◌++◌, length, map, List}
use Rattle.std.specs.FinMap.{keys}
use Rattle.net_types.specs.declared.prefix.Prefix.{Prefix}
use Rattle.route_server.specs.declared.held.Held.{Held}
use Rattle.route_server.proofs.server.keys_of.Given as goal

abbrev pub invariant-loop-prefix : goal.invariant-loop-prefix
invariant-loop-prefix l = l.prefixes.items ++ map (λ (e : Prefix × List Held). e.0) l.left ≡ keys l.rows.map

abbrev pub decreases-loop-prefix : goal.decreases-loop-prefix
decreases-loop-prefix l = length l.left
