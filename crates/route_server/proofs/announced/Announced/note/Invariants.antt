use Rattle.std.proofs.Common.{take}
use Rattle.net_types.specs.Sets.{Member}
use Rattle.net_types.specs.declared.address.Pid.{Pid}
use Rattle.route_server.specs.Listed.{Lists, StayListed}
use Rattle.route_server.proofs.announced.Announced.note.Given as goal

abbrev pub invariant-loop-from : goal.invariant-loop-from
invariant-loop-from l = record {
  kept : StayListed l.fn.self l.self;
  listed : (q : Pid) → Member q (take l.from-index l.new) → Lists l.self q.0 l.prefix;
}
