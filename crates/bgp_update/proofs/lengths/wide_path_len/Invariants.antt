-- The length so far.
use Rattle.std.proofs.Common.{◌≡◌, length, min, take, flat_map}
use Rattle.net_types.specs.Updates.{wide_segment_octets}
use Rattle.bgp_update.proofs.lengths.wide_path_len.Given as goal

abbrev pub invariant-loop-segment : goal.invariant-loop-segment
invariant-loop-segment l = l.total ≡ min 65535 (length (flat_map wide_segment_octets (take l.segment-index l.path)))
