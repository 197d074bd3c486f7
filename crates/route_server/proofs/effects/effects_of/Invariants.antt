use Rattle.std.specs.Prelude.{IfSome}
use Rattle.std.specs.FinMap.{FinMap}
use Rattle.net_types.specs.Keys.{route_cmp}
use Rattle.net_types.specs.declared.route.Attrs.{Attrs}
use Rattle.route_server.specs.Repeated.{IsDone}
use Rattle.route_server.specs.Served.{AreDeclared}
use Rattle.route_server.specs.Effects.{AreEffects, AreRowsOf, routing_after, routing_by}
use Rattle.route_server.proofs.effects.effects_of.Given as goal

abbrev pub invariant-loop-at : goal.invariant-loop-at
invariant-loop-at l = ((m : FinMap route_cmp Attrs) → AreDeclared l.before.names.now m → AreRowsOf l.changes m → AreEffects (routing_by l.before l.server.routes) (routing_after l.before.names.now l.after.rules.now l.after.named.now m) l.changes l.at l.effects.items) × IfSome l.earlier (IsDone l.before l.after)
