-- What changes of rows do for the prefixes.
use Rattle.std.specs.Prelude.{◌≡◌, ℕ, Bool, true, false, ◌&&◌, not, List, [], map, filter, take, slice_get, Option, Some, None}
use Rattle.std.specs.List.{list_all}
use Rattle.std.specs.Option.{option_map, option_map_or, option_and_then}
use Rattle.std.specs.FinMap.{FinMap, get}
use Rattle.net_types.specs.Attributes.{same_option, same_attrs, same_signature}
use Rattle.net_types.specs.Changes.{best_attrs}
use Rattle.net_types.specs.Exports.{Routing}
use Rattle.net_types.specs.Keys.{route_cmp}
use Rattle.net_types.specs.Routes.{Candidate, best_of, pids}
use Rattle.net_types.specs.Sets.{Member}
use Rattle.net_types.specs.Signatures.{signature}
use Rattle.net_types.specs.declared.address.Pid.{Pid}
use Rattle.net_types.specs.declared.export.ExportRule.{ExportRule}
use Rattle.net_types.specs.declared.prefix.Prefix.{Prefix}
use Rattle.net_types.specs.declared.route.Attrs.{Attrs}
use Rattle.registry.specs.Registered.{Registered}
use Rattle.route_server.specs.Rows.{offered, look, signature_of}
use Rattle.route_server.specs.Served.{routing}
use Rattle.route_server.specs.declared.change.Change.{Change}
use Rattle.route_server.specs.declared.effect.Effect.{Effect}
use Rattle.route_server.specs.declared.held.Held.{Held}
use Rattle.route_server.specs.declared.terms.Terms.{Terms}

-- the attributes at a place of a row
abbrev pub place_attrs : List Held → Option ℕ → Option Attrs
place_attrs row o = option_and_then (λ i. option_map (λ (h : Held). h.attrs) (slice_get row i)) o

-- the row of the change at a place
abbrev pub row_at : List Change → ℕ → List Held
row_at cs n = option_map_or (λ (c : Change). c.row) (slice_get cs n) []

-- each participant's best attributes, by the places in the change's row
abbrev pub effect_bests : List Change → Effect → List (Option Attrs)
effect_bests cs e = map (place_attrs (row_at cs e.at)) e.bests.items

-- a participant's best attributes, by a row
abbrev pub best_by_row : Routing → Prefix → List Held → Pid → Option Attrs
best_by_row r p row to = option_map (λ (c : Candidate). c.attrs) (best_of (offered r to p row))

-- a prefix gives the same by two rows
abbrev pub same_by_rows : Routing → Routing → Prefix → List Held → List Held → Bool
same_by_rows r s p old new = same_signature (signature_of s p new) (signature_of r p old) && list_all (λ to. same_option same_attrs (best_by_row r p old to) (best_by_row s p new to)) (pids r)

-- a prefix gives the same in two routings
abbrev pub is_same : Routing → Routing → Prefix → Bool
is_same r s p = same_signature (signature s p) (signature r p) && list_all (λ to. same_option same_attrs (best_attrs r to p) (best_attrs s to p)) (pids r)

-- what a change does that is not the same
pub record IsEffect (r s : Routing) (old : List Held) (c : Change) (at : ℕ) (e : Effect) : Type 0 where
  pub differs : same_by_rows r s c.prefix old c.row ≡ false
  pub at_is : e.at ≡ at
  pub prefix_is : e.prefix ≡ c.prefix
  pub sig : e.sig.value ≡ signature_of s c.prefix c.row
  pub bests : map (place_attrs c.row) e.bests.items ≡ map (best_by_row s c.prefix c.row) (pids s)

-- what a change does, or nothing where all stays the same
abbrev pub IsEffectOf : Routing → Routing → List Held → Change → ℕ → Option Effect → Type 0
IsEffectOf r s old c at None = same_by_rows r s c.prefix old c.row ≡ true
IsEffectOf r s old c at (Some e) = IsEffect r s old c at e

-- what is declared and named, with other rules and routes
abbrev pub routing_after : Registered → List (List ExportRule) → List (List Pid) → FinMap route_cmp Attrs → Routing
routing_after names rules named m = routing names (record { routes = m; rules = rules; named = named; room = 0 })

-- the same, as code has it
abbrev pub routing_by : Terms → FinMap route_cmp Attrs → Routing
routing_by t m = routing_after t.names.now t.rules.now t.named.now m

-- each change has the row of these routes
pub record AreRowsOf (cs : List Change) (m : FinMap route_cmp Attrs) : Type 0 where
  pub each : (c : Change) → Member c cs → (from : Pid) → get m (record { from = from; prefix = c.prefix }) ≡ look c.row from.0

-- what the first n changes do: one effect for each that does something, with what is true afterwards
pub record AreEffects (r s : Routing) (cs : List Change) (n : ℕ) (es : List Effect) : Type 0 where
  pub touched : map (λ (e : Effect). e.prefix) es ≡ map (λ (c : Change). c.prefix) (filter (λ (c : Change). not (is_same r s c.prefix)) (take n cs))
  pub sigs : map (λ (e : Effect). e.sig.value) es ≡ map (signature s) (map (λ (e : Effect). e.prefix) es)
  pub bests : map (effect_bests cs) es ≡ map (λ q. map (λ to. best_attrs s to q) (pids s)) (map (λ (e : Effect). e.prefix) es)
