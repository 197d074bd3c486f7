-- The routes after accepted lines (RFC 4271 9), and the prefixes for which somebody's choice is another then.
use Rattle.std.specs.Prelude.{◌≢◌, ◌⊎◌, not, nat_eq, List, [], ◌∷◌, Option, Some, None}
use Rattle.std.specs.Option.{option_map}
use Rattle.std.specs.FinMap.{FinMap, insert, remove, retain_keys}
use Rattle.net_types.specs.Exports.{Routing}
use Rattle.net_types.specs.Keys.{RouteKey, route_cmp}
use Rattle.net_types.specs.Routes.{Candidate, best, pids}
use Rattle.net_types.specs.Sets.{IsRising, Member}
use Rattle.net_types.specs.Signatures.{signature}
use Rattle.net_types.specs.UpdateSpelling.{is_before}
use Rattle.net_types.specs.declared.address.Pid.{Pid}
use Rattle.net_types.specs.declared.prefix.Prefix.{Prefix}
use Rattle.net_types.specs.declared.route.Attrs.{Attrs}
use Rattle.net_types.specs.declared.update.Update.{Update}

-- a participant's routes for these prefixes are removed
abbrev pub withdrawn : Pid → List Prefix → FinMap route_cmp Attrs → FinMap route_cmp Attrs
withdrawn from [] m = m
withdrawn from (p ∷ ps) m = withdrawn from ps (remove m (record { from = from; prefix = p }))

-- a participant's routes for these prefixes are set, in place of earlier ones
abbrev pub announced_by : Pid → Attrs → List Prefix → FinMap route_cmp Attrs → FinMap route_cmp Attrs
announced_by from attrs [] m = m
announced_by from attrs (p ∷ ps) m = announced_by from attrs ps (insert m (record { from = from; prefix = p }) attrs)

-- the same where there are attributes
abbrev pub announced_with : Pid → Option Attrs → List Prefix → FinMap route_cmp Attrs → FinMap route_cmp Attrs
announced_with from None ps m = m
announced_with from (Some attrs) ps m = announced_by from attrs ps m

-- an update first removes what it withdraws, and then sets what it announces
abbrev pub updated : Pid → Update → FinMap route_cmp Attrs → FinMap route_cmp Attrs
updated from u m = announced_with from u.attrs u.announced (withdrawn from u.withdrawn m)

-- all routes but a participant's
abbrev pub without_routes : Pid → FinMap route_cmp Attrs → FinMap route_cmp Attrs
without_routes from m = retain_keys m (λ (k : RouteKey). not (nat_eq k.from.0 from.0))

-- the best route's attributes
abbrev pub best_attrs : Routing → Pid → Prefix → Option Attrs
best_attrs r to p = option_map (λ (c : Candidate). c.attrs) (best r to p)

-- the signature, or some participant's best attributes, are others
abbrev pub Differs : Routing → Routing → Prefix → Type 0
Differs r s p = (signature r p ≢ signature s p) ⊎ ((to : Pid) × Member to (pids r) × (best_attrs r to p ≢ best_attrs s to p))

-- These are exactly the prefixes at which two routings differ, ascending, each once.
pub record AreTouched (r s : Routing) (ps : List Prefix) : Type 0 where
  pub each : (p : Prefix) → Member p ps → Differs r s p
  pub all : (p : Prefix) → Differs r s p → Member p ps
  pub ascending : IsRising is_before ps
