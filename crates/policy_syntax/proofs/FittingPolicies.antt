-- Of which policies the canonical text is read: its groups are few enough, and its parts in range.
use Rattle.std.specs.Prelude.{ℕ, zero, suc, ◌^◌, ◌≤◌, ◌<◌, Bool, true, false, Option, Some, None, List, [], ◌∷◌, ◌++◌}
use Rattle.grammar.specs.Tokens.{IsName}
use Rattle.net_types.specs.declared.address.Ip.{Ip}
use Rattle.net_types.specs.declared.headers.Assign.{Assign}
use Rattle.net_types.specs.Policies.{Target, Name, Number, Test, Inport, Src, Dst, Proto, Sport, Dport, Pred, Yes, Is, Not, And, Or, Policy, Drop, Pass, Block, Fwd, Match, Set, Both, Then}
use Rattle.net_types.specs.PolicyGrammar.{Field, SrcIs, DstIs, SportIs, DportIs}
use Rattle.policy_syntax.specs.Canonical.{Level, Loose, Middle, Tight, Single, group_first, group_second, group_third}

abbrev pub SoundTest : Test → Type 0
SoundTest (Inport n) = (1 ≤ n.0) × (n.0 ≤ 65279)
SoundTest (Src p) = Unit {0}
SoundTest (Dst p) = Unit {0}
SoundTest (Proto n) = n ≤ 255
SoundTest (Sport n) = n ≤ 65535
SoundTest (Dport n) = n ≤ 65535

-- where it is a group, with one group fewer
abbrev pub Inside : ℕ → Bool → (ℕ → Type 0) → Type 0
Inside d false F = F d
Inside zero true F = ⊥
Inside (suc e) true F = F e

-- the canonical text has at most d groups open at once, and its numbers are in range
abbrev pub FitsPred : ℕ → Level → Pred → Type 0
FitsPred d level Yes = Unit {0}
FitsPred d level (Is t s) = SoundTest t
FitsPred d level (Not p) = Inside d (group_third level) (λ e. FitsPred e Single p)
FitsPred d level (And p q) = Inside d (group_second level) (λ e. FitsPred e Middle p × FitsPred e Tight q)
FitsPred d level (Or p q) = Inside d (group_first level) (λ e. FitsPred e Loose p × FitsPred e Middle q)

abbrev pub SoundTarget : Target → Type 0
SoundTarget (Name n) = IsName n
SoundTarget (Number n) = (1 ≤ n.0) × (n.0 ≤ 65279)

-- the canonical text has at most d groups open at once, and its parts are in range; sound says so of a set of fields
abbrev pub FitsPolicy : (Assign → Type 0) → ℕ → Level → Policy → Type 0
FitsPolicy sound d level Drop = Unit {0}
FitsPolicy sound d level Pass = Unit {0}
FitsPolicy sound d level Block = Unit {0}
FitsPolicy sound d level (Fwd t s) = SoundTarget t
FitsPolicy sound d level (Match p) = FitsPred d Loose p
FitsPolicy sound d level (Set a s) = sound a
FitsPolicy sound d level (Then p q) = Inside d (group_second level) (λ e. FitsPolicy sound e Middle p × FitsPolicy sound e Tight q)
FitsPolicy sound d level (Both p q) = Inside d (group_first level) (λ e. FitsPolicy sound e Loose p × FitsPolicy sound e Middle q)

abbrev pub SoundField : Field → Type 0
SoundField (SrcIs ip) = ip < 2 ^ 32
SoundField (DstIs ip) = ip < 2 ^ 32
SoundField (SportIs n) = n ≤ 65535
SoundField (DportIs n) = n ≤ 65535

abbrev pub AllSound : List Field → Type 0
AllSound [] = Unit {0}
AllSound (f ∷ fs) = SoundField f × AllSound fs

abbrev pub some_src : Option Ip → List Field
some_src None = []
some_src (Some ip) = SrcIs ip.0 ∷ []

abbrev pub some_dst : Option Ip → List Field
some_dst None = []
some_dst (Some ip) = DstIs ip.0 ∷ []

abbrev pub some_sport : Option ℕ → List Field
some_sport None = []
some_sport (Some n) = SportIs n ∷ []

abbrev pub some_dport : Option ℕ → List Field
some_dport None = []
some_dport (Some n) = DportIs n ∷ []

abbrev pub fields_of : Option Ip → Option Ip → Option ℕ → Option ℕ → List Field
fields_of s d p q = some_src s ++ (some_dst d ++ (some_sport p ++ some_dport q))

abbrev pub IsNonEmpty : List Field → Type 0
IsNonEmpty [] = ⊥
IsNonEmpty (f ∷ fs) = Unit {0}

-- the fields are in range, and one is set
pub record SoundAssign (a : Assign) : Type 0 where
  pub each : AllSound (fields_of a.src a.dst a.sport a.dport)
  pub some : IsNonEmpty (fields_of a.src a.dst a.sport a.dport)
