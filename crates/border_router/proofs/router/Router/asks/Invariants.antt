-- The unresolved ones so far and those of what is left are all.
use Rattle.std.proofs.Common.{◌≡◌, ◌++◌, map, filter}
use Rattle.std.specs.FinMap.{values}
use Rattle.net_types.specs.declared.address.Ip.{Ip}
use Rattle.net_types.specs.declared.prefix.Prefix.{Prefix}
use Rattle.border_router.specs.Known.{is_unresolved}
use Rattle.border_router.proofs.router.Router.asks.Given as goal

abbrev pub invariant-loop-next_hop : goal.invariant-loop-next_hop
invariant-loop-next_hop l = l.ips.items ++ filter (is_unresolved l.self.known) (map (λ (e : Prefix × Ip). e.1) l.next_hop-iterator) ≡ filter (is_unresolved l.self.known) (values l.self.known.next_hops)
