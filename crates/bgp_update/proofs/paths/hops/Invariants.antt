-- The count so far.
use Rattle.std.proofs.Common.{◌≡◌, take, sum_by}
use Rattle.net_types.specs.Paths.{hops_of}
use Rattle.bgp_update.proofs.paths.hops.Given as goal

abbrev pub invariant-loop-segment : goal.invariant-loop-segment
invariant-loop-segment l = l.total ≡ sum_by hops_of (take l.segment-index l.path)
