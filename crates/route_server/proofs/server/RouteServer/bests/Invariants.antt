use Rattle.std.proofs.Common.{◌≡◌, map, take}
use Rattle.std.specs.Borrow.{Bor}
use Rattle.net_types.specs.Changes.{best_attrs}
use Rattle.net_types.specs.declared.prefix.Prefix.{Prefix}
use Rattle.net_types.specs.declared.route.Attrs.{Attrs}
use Rattle.route_server.specs.Served.{routing}
use Rattle.route_server.proofs.BestLaws.{entries_by}
use Rattle.route_server.proofs.server.RouteServer.bests.Given as goal

abbrev pub invariant-loop-prefix : goal.invariant-loop-prefix
invariant-loop-prefix l = map (λ (e : Prefix × Bor Attrs). (e.0, e.1.now)) l.bests.items ≡ entries_by (best_attrs (routing l.names l.self) l.who) (take l.prefix-index l.prefix-items)
