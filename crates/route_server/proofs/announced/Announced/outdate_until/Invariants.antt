use Rattle.std.proofs.Common.{length, ◌-◌}
use Rattle.route_server.specs.Listed.{StayListed}
use Rattle.route_server.proofs.announced.Announced.outdate_until.Given as goal

abbrev pub invariant-loop-next : goal.invariant-loop-next
invariant-loop-next l = StayListed l.fn.self l.self

abbrev pub decreases-loop-next : goal.decreases-loop-next
decreases-loop-next l = length l.row - l.next
