use Rattle.std.proofs.Common.{take}
use Rattle.route_server.specs.Repeated.{AreUnruled}
use Rattle.route_server.proofs.repeated.are_unruled.Given as goal

-- those so far have no rules
abbrev pub invariant-loop-own : goal.invariant-loop-own
invariant-loop-own l = AreUnruled (take l.own-index l.rules)
