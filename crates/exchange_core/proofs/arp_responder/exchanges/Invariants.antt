use Rattle.std.proofs.Common.{◌≡◌, map, take}
use Rattle.exchange_core.specs.Resolved.{exchange_for}
use Rattle.exchange_core.proofs.arp_responder.exchanges.Given as goal

-- those of the addresses so far
abbrev pub invariant-loop-ip : goal.invariant-loop-ip
invariant-loop-ip l = l.exchanges ≡ map (exchange_for l.base l.port) (take l.ip-index l.ips)
