-- The routes for one prefix, and which of them are given to a participant.
use Rattle.std.specs.Prelude.{ℕ, zero, suc, ◌+◌, ◌-◌, ◌<◌, ◌≤◌, length, slice_set, ◌++◌, nat_eq, nat_lt, List, [], ◌∷◌, map, filter, not, slice_get, unwrap_or, Option, Some, None, if◌then◌else◌}
use Rattle.std.specs.Coded.{Unit-prop, le_prop}
use Rattle.std.specs.List.{filter_map}
use Rattle.std.specs.Option.{option_map}
use Rattle.std.specs.FinMap.{empty}
use Rattle.net_types.specs.Routes.{best_of}
use Rattle.net_types.specs.Exports.{Routing, is_given, named_by}
use Rattle.net_types.specs.Routes.{Candidate, candidate, pids}
use Rattle.net_types.specs.Signatures.{counts, offer}
use Rattle.net_types.specs.declared.prefix.Prefix.{Prefix}
use Rattle.net_types.specs.declared.route.Attrs.{Attrs}
use Rattle.net_types.specs.declared.export.ExportRule.{ExportRule}
use Rattle.net_types.specs.declared.route.Part.{Part}
use Rattle.net_types.specs.declared.address.Pid.{Pid}
use Rattle.registry.specs.Registered.{Registered}
use Rattle.route_server.specs.declared.held.Held.{Held}
use Rattle.route_server.specs.declared.terms.Terms.{Terms}

-- what is declared, ruled and named, without routes
abbrev pub settled : Registered → List (List ExportRule) → List (List Pid) → Routing
settled names rules named = record { participants = names.participants; ports = names.ports; rules = rules; named = named; routes = empty }

-- the same, as code has it
abbrev pub settled_by : Terms → Routing
settled_by t = settled t.names.now t.rules.now t.named.now

-- what is declared and ruled alone
abbrev pub ruled : Registered → List (List ExportRule) → Routing
ruled names rules = settled names rules []

-- a route, with what the choice looks at
abbrev pub held_by : Routing → Held → Candidate
held_by r h = candidate r h.from h.attrs

-- a route, where it is given to a participant
abbrev pub held_given : Routing → Pid → Prefix → Held → Option Candidate
held_given r to p h = if is_given r h.from to p h.attrs then Some (held_by r h) else None

-- the routes of a row that are given, in order of declaration
abbrev pub offered : Routing → Pid → Prefix → List Held → List Candidate
offered r to p row = filter_map (held_given r to p) row

-- what the place of a row is, as a route that is given
abbrev pub held_at : Routing → List Held → ℕ → Option Candidate
held_at r row i = option_map (held_by r) (slice_get row i)

-- a participant's route in a row
abbrev pub look : List Held → ℕ → Option Attrs
look [] n = None
look (h ∷ hs) n = if nat_eq h.from.0 n then Some h.attrs else look hs n

-- the participants ascend, from low on and below high
abbrev pub Rising : ℕ → ℕ → List Held → Type 0
Rising low high [] = Unit {0}
Rising low high (h ∷ hs) = (low ≤ h.from.0) × (h.from.0 < high) × Rising (h.from.0 + 1) high hs

-- there is one proof that they ascend
pub Rising-prop : (low high : ℕ) (row : List Held) → IsProp (Rising low high row)
Rising-prop low high [] x y = Unit-prop x y
Rising-prop low high (h ∷ hs) x y = λ i. (le_prop x.0 y.0 i, le_prop x.1 y.1 i, Rising-prop (h.from.0 + 1) high hs x.2 y.2 i)

-- of the routes that are given to a sender, those that count beside this best exporter
abbrev pub counted : Routing → Pid → Pid → List Candidate → List Candidate
counted r to chosen gs = filter (λ (c : Candidate). counts (named_by r to) chosen c.from) gs

-- a sender's part of the signature, from the routes that are given to it
abbrev pub part_of : Routing → Pid → List Candidate → Option Part
part_of r to gs = option_map (λ (c : Candidate). record { sender = to; best = c.from; offers = map (offer r) (counted r to c.from gs) }) (best_of gs)

-- the signature of a prefix with this row
abbrev pub signature_of : Routing → Prefix → List Held → List Part
signature_of r p row = filter_map (λ to. part_of r to (offered r to p row)) (pids r)

-- a row in which a participant has another route, or none
abbrev pub look_after : ℕ → Option Attrs → List Held → ℕ → Option Attrs
look_after from to row n = if nat_eq from n then to else look row n

-- a row without a participant's route
abbrev pub without : ℕ → List Held → List Held
without from row = filter (λ (h : Held). not (nat_eq h.from.0 from)) row

-- the routes of the participants below one
abbrev pub before : ℕ → List Held → List Held
before from row = filter (λ (h : Held). nat_lt h.from.0 from) row

-- the routes of the participants above one
abbrev pub after : ℕ → List Held → List Held
after from row = filter (λ (h : Held). nat_lt from h.from.0) row

-- whom a participant names, by the lists of all
abbrev pub names_at : List (List Pid) → ℕ → List Pid
names_at named n = unwrap_or (slice_get named n) []

-- as many lists without rules
abbrev pub nothings : ℕ → List (List ExportRule)
nothings zero = []
nothings (suc n) = [] ∷ nothings n

-- the rules of so many participants at least; those that have none yet have no rules
abbrev pub padded : List (List ExportRule) → ℕ → List (List ExportRule)
padded rules count = rules ++ nothings (count - length rules)

-- the rules with a participant's own in place of its earlier ones
abbrev pub rules_with : List (List ExportRule) → Pid → List ExportRule → List (List ExportRule)
rules_with rules from own = slice_set (padded rules (from.0 + 1)) from.0 own

-- the rules at a place
abbrev pub rules_at : List (List ExportRule) → ℕ → List ExportRule
rules_at rules n = unwrap_or (slice_get rules n) []
