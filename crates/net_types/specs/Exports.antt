-- Export rules, and which routes a participant gives to which other (this exchange's own rule).
-- which prefixes a rule is about: every one, one alone, or one and all that lie within it
pub use Rattle.net_types.specs.Paths.{asns}
use Rattle.net_types.specs.declared.export.Which.{Which}
pub use Rattle.net_types.specs.declared.export.Which.TheVariants.{Every, Exactly, Within}
-- a rule without a participant is about every one
pub use Rattle.net_types.specs.declared.export.ExportRule.{ExportRule}
use Rattle.std.specs.Prelude.{ℕ, Bool, true, false, ◌&&◌, not, nat_eq, List, [], ◌∷◌, slice_get, Option, unwrap_or, if◌then◌else◌}
use Rattle.std.specs.List.{list_any, position_from}
use Rattle.std.specs.Option.{option_map, option_map_or}
use Rattle.std.specs.FinMap.{FinMap, get}
use Rattle.net_types.specs.Keys.{route_cmp}
use Rattle.net_types.specs.Octets.{same_octets}
use Rattle.net_types.specs.Prefixes.{lies_within}
use Rattle.net_types.specs.declared.address.Pid.{Pid}
use Rattle.net_types.specs.declared.prefix.Prefix.{Prefix}
use Rattle.net_types.specs.declared.route.Attrs.{Attrs}
use Rattle.net_types.specs.declared.route.Participant.{Participant}
use Rattle.net_types.specs.declared.route.PortInfo.{PortInfo}
use Rattle.net_types.specs.declared.route.Segment.{Segment}

-- the same address and length
abbrev pub same_prefix : Prefix → Prefix → Bool
same_prefix p q = nat_eq p.address.0 q.address.0 && nat_eq p.len q.len

-- a rule is about a prefix
abbrev pub is_about : Which → Prefix → Bool
is_about Every p = true
is_about (Exactly q) p = same_prefix p q
is_about (Within q) p = lies_within p q

-- a rule applies to a participant and a prefix
abbrev pub applies : ExportRule → Pid → Prefix → Bool
applies r to p = option_map_or (λ (w : Pid). nat_eq w.0 to.0) r.who true && is_about r.which p

-- the first rule that applies decides, and where none does the prefix is given
abbrev pub allows : List ExportRule → Pid → Prefix → Bool
allows [] to p = true
allows (r ∷ rs) to p = if applies r to p then r.allow else allows rs to p

-- What is declared, ruled, named and announced. A participant is its place in the lists.
pub record Routing : Type 0 where
  pub participants : List Participant
  pub ports : List PortInfo
  pub rules : List (List ExportRule)
  -- whom each participant's outbound policy names in a forward
  pub named : List (List Pid)
  pub routes : FinMap route_cmp Attrs

-- the one with a name, of participants in order of declaration
abbrev pub participant_named : List Participant → List ℕ → Option Pid
participant_named participants name = option_map (λ n. record { 0 = n }) (position_from (λ (m : Participant). same_octets m.name name) 0 participants)

-- the participant of a name
abbrev pub pid_of : Routing → List ℕ → Option Pid
pid_of r name = participant_named r.participants name

-- a participant's route for a prefix
abbrev pub route : Routing → Pid → Prefix → Option Attrs
route r from p = get r.routes (record { from = from; prefix = p })

-- an AS stands in some segment of a path
abbrev pub is_in_path : ℕ → List Segment → Bool
is_in_path n path = list_any (λ s. list_any (nat_eq n) (asns s)) path

-- the AS of a participant; 0 where it is not declared
abbrev pub asn_of : Routing → Pid → ℕ
asn_of r who = option_map_or (λ (m : Participant). m.asn) (slice_get r.participants who.0) 0

-- the export rules of a participant
abbrev pub rules_of : Routing → Pid → List ExportRule
rules_of r who = unwrap_or (slice_get r.rules who.0) []

-- whom the outbound policy of a participant names in a forward
abbrev pub named_by : Routing → Pid → List Pid
named_by r who = unwrap_or (slice_get r.named who.0) []

-- One participant gives another its route for a prefix: nobody gives to itself, and nobody whose AS stands in the path
-- is given it.
abbrev pub is_given : Routing → Pid → Pid → Prefix → Attrs → Bool
is_given r from to p attrs = not (nat_eq from.0 to.0) && not (is_in_path (asn_of r to) attrs.path) && allows (rules_of r from) to p

-- one participant exports a prefix to another
abbrev pub exports : Routing → Pid → Pid → Prefix → Bool
exports r from to p = option_map_or (is_given r from to p) (route r from p) false
