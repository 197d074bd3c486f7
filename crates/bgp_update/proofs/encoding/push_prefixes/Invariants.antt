-- The ones so far are written.
use Rattle.std.proofs.Common.{◌≡◌, ◌++◌, take, flat_map}
use Rattle.net_types.specs.Updates.{prefix_octets}
use Rattle.bgp_update.proofs.encoding.push_prefixes.Given as goal

abbrev pub invariant-loop-prefix : goal.invariant-loop-prefix
invariant-loop-prefix l = l.out.items ≡ l.fn.out.items ++ flat_map prefix_octets (take l.prefix-index l.prefixes)
