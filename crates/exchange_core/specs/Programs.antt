-- The policies of participants, as texts and compiled, and what becomes of them in a line (this exchange's own rule).
use Rattle.std.specs.Prelude.{◌≡◌, ℕ, ◌<◌, List, map, slice_get, slice_set, codes, Option, Ok}
use Rattle.std.specs.Option.{option_map_or}
use Rattle.block_build.specs.Lent.{Lent}
use Rattle.classifier.specs.Classifiers.{lines_of}
use Rattle.classifier.specs.Meaning as lines
use Rattle.classifier.specs.declared.line.Line.{Line}
use Rattle.net_types.specs.Meets.{IsMeet}
use Rattle.net_types.specs.Policies.{Policy, atoms, den}
use Rattle.net_types.specs.PolicyReading.{policy_of_text}
use Rattle.net_types.specs.Sets.{Member, SameMembers}
use Rattle.net_types.specs.declared.address.Pid.{Pid}
use Rattle.net_types.specs.declared.cube.Cube.{Cube}
use Rattle.net_types.specs.declared.headers.Headers.{Headers}
use Rattle.net_types.specs.declared.headers.Loc.TheVariants.{Stay as Stays}
use Rattle.exchange_core.specs.declared.programs.PolicyChange.{PolicyChange}
use Rattle.exchange_core.specs.declared.programs.PolicyChange.TheVariants.{Stay, Outbound, Inbound}
use Rattle.exchange_core.specs.declared.programs.Program.{Program}
use Rattle.exchange_core.specs.declared.programs.Programs.{Programs}

-- the texts of the outbound policies
abbrev pub outbound_texts : List Programs → List (List ℕ)
outbound_texts all = map (λ (b : Programs). b.outbound.text) all

-- the texts of the inbound policies
abbrev pub inbound_texts : List Programs → List (List ℕ)
inbound_texts all = map (λ (b : Programs). b.inbound.text) all

-- the rules of a participant's two classifiers
abbrev pub lent_of : Programs → Lent
lent_of b = record { outbound = lines_of b.outbound.classifier; inbound = lines_of b.inbound.classifier }

-- those of all participants
abbrev pub all_lent : List Programs → List Lent
all_lent all = map lent_of all

-- The rules do what the policy of the text does, where the names are so, and their cubes are meets of its atoms.
pub record AreRulesOf (names : List ℕ → Option Pid) (text : List ℕ) (rules : List Line) : Type 0 where
  pub means : (p : Policy) → policy_of_text text ≡ Ok p → (h : Headers) → SameMembers (lines.meaning rules h Stays) (den names p h Stays)
  pub cubes : (p : Policy) → policy_of_text text ≡ Ok p → (c : Cube) → Member c (lines.cubes_of rules) → IsMeet (atoms p) c

-- so it is for a policy
abbrev pub IsCompiled : (List ℕ → Option Pid) → Program → Type 0
IsCompiled names p = AreRulesOf names p.text (lines_of p.classifier)

-- and for all policies of all participants
abbrev pub AreCompiled : (List ℕ → Option Pid) → List Programs → Type 0
AreCompiled names all = (b : Programs) → Member b all → IsCompiled names b.outbound × IsCompiled names b.inbound

-- the policy is `drop`, whatever the names are
pub record IsDropping (p : Program) : Type 0 where
  pub text : p.text ≡ codes "drop"
  pub compiled : (names : List ℕ → Option Pid) → IsCompiled names p

-- what becomes of the policies of one participant
abbrev pub changed_at : List Programs → Pid → (Programs → Programs) → List Programs
changed_at all who f = option_map_or (λ (b : Programs). slice_set all who.0 (f b)) (slice_get all who.0) all

-- the policies after a change
abbrev pub changed : List Programs → PolicyChange → List Programs
changed all Stay = all
changed all (Outbound who p) = changed_at all who (λ b. record b { outbound = p })
changed all (Inbound who p) = changed_at all who (λ b. record b { inbound = p })

-- the texts of the outbound policies after a change
abbrev pub outbound_after : List (List ℕ) → PolicyChange → List (List ℕ)
outbound_after texts Stay = texts
outbound_after texts (Outbound who p) = slice_set texts who.0 p.text
outbound_after texts (Inbound who p) = texts

-- the texts of the inbound policies after a change
abbrev pub inbound_after : List (List ℕ) → PolicyChange → List (List ℕ)
inbound_after texts Stay = texts
inbound_after texts (Outbound who p) = texts
inbound_after texts (Inbound who p) = slice_set texts who.0 p.text

-- a change is one of these first participants'
abbrev pub IsChangeOf : ℕ → PolicyChange → Type 0
IsChangeOf count Stay = Unit {0}
IsChangeOf count (Outbound who p) = who.0 < count
IsChangeOf count (Inbound who p) = who.0 < count

-- what it brings is compiled
abbrev pub IsChangeCompiled : (List ℕ → Option Pid) → PolicyChange → Type 0
IsChangeCompiled names Stay = Unit {0}
IsChangeCompiled names (Outbound who p) = IsCompiled names p
IsChangeCompiled names (Inbound who p) = IsCompiled names p
