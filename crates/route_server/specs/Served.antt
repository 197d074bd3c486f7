-- What a route server holds.
use Rattle.std.specs.Prelude.{◌≡◌, ◌<◌, length, ℕ, Bool, true, is_some, List, [], ◌∷◌, map, flat_map, Option, Some, IfSome, if◌then◌else◌}
use Rattle.std.specs.List.{list_any}
use Rattle.std.specs.Option.{option_and_then}
use Rattle.std.specs.FinMap.{FinMap, get, entries}
use Rattle.net_types.specs.Keys.{RouteKey, prefix_cmp, route_cmp}
use Rattle.net_types.specs.Maps.{tabulate}
use Rattle.net_types.specs.Changes.{best_attrs}
use Rattle.net_types.specs.Exports.{Routing, same_prefix}
use Rattle.net_types.specs.Sets.{IsRising, Member}
use Rattle.net_types.specs.UpdateSpelling.{is_before}
use Rattle.net_types.specs.declared.address.Ip.{Ip}
use Rattle.net_types.specs.declared.address.Pid.{Pid}
use Rattle.net_types.specs.declared.prefix.Prefix.{Prefix}
use Rattle.net_types.specs.declared.route.Attrs.{Attrs}
use Rattle.net_types.specs.declared.export.ExportRule.{ExportRule}
use Rattle.registry.specs.Registered.{Registered, has_address}
use Rattle.route_server.specs.Rows.{look, Rising}
use Rattle.route_server.specs.declared.change.Change.{Change}
use Rattle.route_server.specs.declared.held.Held.{Held}

-- the routes, each participant's export rules, whom its outbound policy names, and for how many new prefixes there is room
pub record Served : Type 0 where
  pub routes : FinMap route_cmp Attrs
  pub rules : List (List ExportRule)
  pub named : List (List Pid)
  pub room : ℕ

-- the keys of a prefix's routes
abbrev pub keys_in : Prefix × List Held → List RouteKey
keys_in e = map (λ (h : Held). record { from = h.from; prefix = e.0 }) e.1

-- a route by the row of its prefix
abbrev pub route_in : FinMap prefix_cmp (List Held) → RouteKey → Option Attrs
route_in rows k = option_and_then (λ row. look row k.from.0) (get rows k.prefix)

-- the routes that stand in rows
abbrev pub routes_of : FinMap prefix_cmp (List Held) → FinMap route_cmp Attrs
routes_of rows = tabulate route_cmp (flat_map keys_in (entries rows)) (route_in rows)

-- each row ascends
abbrev pub AreRows : FinMap prefix_cmp (List Held) → Type 0
AreRows rows = (p : Prefix) → IfSome (get rows p) (λ row. Rising 0 256 row)

-- the routes where a prefix has another row
abbrev pub one_after : Change → (RouteKey → Option Attrs) → RouteKey → Option Attrs
one_after c f q = if same_prefix c.prefix q.prefix then look c.row q.from.0 else f q

-- where prefixes have other rows, the last one counts
abbrev pub route_after : List Change → (RouteKey → Option Attrs) → RouteKey → Option Attrs
route_after [] f q = f q
route_after (c ∷ cs) f q = route_after cs (one_after c f) q

-- with what is declared
abbrev pub routing : Registered → Served → Routing
routing names s = record { participants = names.participants; ports = names.ports; rules = s.rules; named = s.named; routes = s.routes }

-- with the changes the routes become these
pub record Reaches (cs : List Change) (before after : FinMap route_cmp Attrs) : Type 0 where
  pub routes : (q : RouteKey) → route_after cs (get before) q ≡ get after q

-- each route is that of a declared participant
pub record AreDeclared (names : Registered) (routes : FinMap route_cmp Attrs) : Type 0 where
  pub declared : (k : RouteKey) → IfSome (get routes k) (λ _. k.from.0 < length names.participants)

-- one of a participant's ports has an address
abbrev pub owns : Routing → Pid → Ip → Bool
owns r who ip = has_address (record { participants = r.participants; ports = r.ports }) who ip

-- each route is that of a declared participant, which owns the port of its next hop
pub record AreOwned (r : Routing) : Type 0 where
  pub owned : (k : RouteKey) → IfSome (get r.routes k) (λ a. (k.from.0 < length r.participants) × (owns r k.from a.next_hop ≡ true))

-- the prefixes of all routes, ascending
pub record AreAll (routes : FinMap route_cmp Attrs) (ps : List Prefix) : Type 0 where
  pub rising : IsRising is_before ps
  pub all : (k : RouteKey) → is_some (get routes k) ≡ true → Member k.prefix ps

-- exactly the prefixes for which a participant has a best route, ascending, each with the route's attributes
pub record AreBests (r : Routing) (who : Pid) (es : List (Prefix × Attrs)) : Type 0 where
  pub rising : IsRising is_before (map (λ (e : Prefix × Attrs). e.0) es)
  pub each : (p : Prefix) (a : Attrs) → Member (p, a) es → best_attrs r who p ≡ Some a
  pub all : (p : Prefix) (a : Attrs) → best_attrs r who p ≡ Some a → Member (p, a) es

-- the prefixes of the routes of some participants, ascending
pub record CarryAny (routes : FinMap route_cmp Attrs) (froms : List Pid) (ps : List Prefix) : Type 0 where
  pub rising : IsRising is_before ps
  pub some : (p : Prefix) → Member p ps → list_any (λ (from : Pid). is_some (get routes (record { from = from; prefix = p }))) froms ≡ true
  pub all : (p : Prefix) → list_any (λ (from : Pid). is_some (get routes (record { from = from; prefix = p }))) froms ≡ true → Member p ps

-- the prefixes of a participant's routes, ascending
pub record Carries (routes : FinMap route_cmp Attrs) (from : Pid) (ps : List Prefix) : Type 0 where
  pub rising : IsRising is_before ps
  pub some : (p : Prefix) → Member p ps → is_some (get routes (record { from = from; prefix = p })) ≡ true
  pub all : (p : Prefix) → is_some (get routes (record { from = from; prefix = p })) ≡ true → Member p ps
