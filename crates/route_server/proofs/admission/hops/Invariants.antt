use Rattle.std.proofs.Common.{◌≡◌, ◌+◌, drop, sum_by}
use Rattle.net_types.specs.Paths.{hops_of}
use Rattle.route_server.proofs.admission.hops.Given as goal

abbrev pub invariant-loop-segment : goal.invariant-loop-segment
invariant-loop-segment l = l.count + sum_by hops_of (drop l.segment-index l.path) ≡ sum_by hops_of l.path
