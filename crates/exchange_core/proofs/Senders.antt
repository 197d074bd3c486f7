-- Whose the routes are.
use Rattle.std.proofs.Common.{◌≡◌, ◌<◌, length, sym, subst, refl}
use Rattle.std.specs.Prelude.{Option, Some, None, IfSome}
use Rattle.std.specs.FinMap.{get}
use Rattle.exchange_laws.specs.Whole.{RoutesAreDeclared}
use Rattle.net_types.specs.Exports.{Routing}
use Rattle.net_types.specs.Keys.{RouteKey}
use Rattle.net_types.specs.declared.route.Attrs.{Attrs}
use Rattle.registry.specs.Registered.{Registered}
use Rattle.route_server.specs.Served.{AreDeclared}

-- each route is a declared participant's
pub routes_declared : (names : Registered) (r : Routing) → names.participants ≡ r.participants → RoutesAreDeclared r → AreDeclared names r.routes
routes_declared names r same all = record {
  declared = λ k. by k (get r.routes k) refl;
}
  where
    by : (k : RouteKey) (o : Option Attrs) → get r.routes k ≡ o → IfSome o (λ _. k.from.0 < length names.participants)
    by k None e = tt
    by k (Some a) e = subst (λ ms. k.from.0 < length ms) (sym same) (all k.from k.prefix a e)
