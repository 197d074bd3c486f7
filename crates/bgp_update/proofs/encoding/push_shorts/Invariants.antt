-- The ones so far are written.
use Rattle.std.proofs.Common.{◌≡◌, ◌++◌, take, flat_map}
use Rattle.net_types.specs.Updates.{short}
use Rattle.bgp_update.proofs.encoding.push_shorts.Given as goal

abbrev pub invariant-loop-asn : goal.invariant-loop-asn
invariant-loop-asn l = l.out.items ≡ l.fn.out.items ++ flat_map short (take l.asn-index l.asns)
