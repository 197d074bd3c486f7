-- The length so far.
use Rattle.std.proofs.Common.{◌≡◌, length, min, take, flat_map}
use Rattle.net_types.specs.Updates.{prefix_octets}
use Rattle.bgp_update.proofs.lengths.prefixes_len.Given as goal

abbrev pub invariant-loop-prefix : goal.invariant-loop-prefix
invariant-loop-prefix l = l.total ≡ min 65535 (length (flat_map prefix_octets (take l.prefix-index l.prefixes)))
