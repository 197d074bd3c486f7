use Rattle.std.proofs.Common.{◌≡◌, take}
use Rattle.route_server.proofs.names.copied.Given as goal

abbrev pub invariant-loop-own : goal.invariant-loop-own
invariant-loop-own l = l.twins.items ≡ take l.own-index l.lists
