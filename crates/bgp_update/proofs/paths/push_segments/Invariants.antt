-- The ones so far are behind.
use Rattle.std.proofs.Common.{◌≡◌, ◌++◌, take}
use Rattle.bgp_update.proofs.paths.push_segments.Given as goal

abbrev pub invariant-loop-segment : goal.invariant-loop-segment
invariant-loop-segment l = l.out.items ≡ l.fn.out.items ++ take l.segment-index l.path
