-- The ones so far are written.
use Rattle.std.proofs.Common.{◌≡◌, ◌++◌, take, flat_map}
use Rattle.net_types.specs.Updates.{wide_segment_octets}
use Rattle.bgp_update.proofs.encoding.push_wide_path.Given as goal

abbrev pub invariant-loop-segment : goal.invariant-loop-segment
invariant-loop-segment l = l.out.items ≡ l.fn.out.items ++ flat_map wide_segment_octets (take l.segment-index l.path)
