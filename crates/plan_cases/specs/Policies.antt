-- The policies of participants, as texts, and what they are compiled to (this exchange's own rule).
use Rattle.std.specs.Prelude.{◌≡◌, ℕ, List, [], ◌∷◌, codes, map, Option, Ok}
use Rattle.block_build.specs.Lent.{Lent}
use Rattle.classifier.specs.Classifiers.{lines_of}
use Rattle.classifier.specs.Meaning as lines
use Rattle.classifier.specs.declared.line.Line.{Line}
use Rattle.net_types.specs.Meets.{IsMeet}
use Rattle.net_types.specs.Policies.{Policy, atoms, den}
use Rattle.net_types.specs.PolicyReading.{policy_of_text}
use Rattle.net_types.specs.Sets.{Member, SameMembers}
use Rattle.net_types.specs.declared.address.Pid.{Pid}
use Rattle.net_types.specs.declared.cube.Cube.{Cube}
use Rattle.net_types.specs.declared.headers.Headers.{Headers}
use Rattle.net_types.specs.declared.headers.Loc.TheVariants.{Stay}
use Rattle.plan_cases.specs.declared.policies.Texts.{Texts}
use Rattle.plan_cases.specs.declared.programs.Programs.{Programs}

-- policies that drop
abbrev pub dropping : Texts
dropping = record { outbound = codes "drop"; inbound = codes "drop" }

-- the texts of the outbound policies
abbrev pub outbound_texts : List Texts → List (List ℕ)
outbound_texts all = map (λ (t : Texts). t.outbound) all

-- the texts of the inbound policies
abbrev pub inbound_texts : List Texts → List (List ℕ)
inbound_texts all = map (λ (t : Texts). t.inbound) all

-- the rules of a participant's two classifiers
abbrev pub lent_of : Programs → Lent
lent_of b = record { outbound = lines_of b.outbound; inbound = lines_of b.inbound }

-- The rules do what the policy of the text does, where the names are so, and their cubes are meets of its atoms.
pub record AreRulesOf (names : List ℕ → Option Pid) (text : List ℕ) (rules : List Line) : Type 0 where
  pub means : (p : Policy) → policy_of_text text ≡ Ok p → (h : Headers) → SameMembers (lines.meaning rules h Stay) (den names p h Stay)
  pub cubes : (p : Policy) → policy_of_text text ≡ Ok p → (c : Cube) → Member c (lines.cubes_of rules) → IsMeet (atoms p) c

-- the classifiers are those of the texts, one by one
abbrev pub AreCompiled : (List ℕ → Option Pid) → List Texts → List Programs → Type 0
AreCompiled names [] [] = Unit {0}
AreCompiled names (t ∷ ts) (b ∷ bs) = AreRulesOf names t.outbound (lines_of b.outbound) × AreRulesOf names t.inbound (lines_of b.inbound) × AreCompiled names ts bs
AreCompiled names [] (b ∷ bs) = ⊥
AreCompiled names (t ∷ ts) [] = ⊥
