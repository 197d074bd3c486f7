-- How wide a policy may be: the meets and the assignments of each of its parts are counted (this exchange's own rule).
use Rattle.std.specs.Prelude.{◌≡◌, ℕ, ◌<◌, nat_lt, nat_eq, ◌⊎◌, ◌↔◌, Bool, true, ◌&&◌, ◌||◌, List, [], ◌∷◌, ◌++◌, length}
use Rattle.std.specs.List.{list_any}
use Rattle.net_types.specs.Attributes.{same_option, same_ip}
use Rattle.net_types.specs.declared.headers.Assign.{Assign}
use Rattle.net_types.specs.Maps.{each_once}
use Rattle.net_types.specs.Sets.{Member, HasNoRepeats}
use Rattle.net_types.specs.Meets.{meets}
use Rattle.net_types.specs.Policies.{Policy, Drop, Pass, Block, Fwd, Match, Set, Both, Then, atoms, mods}

-- the list has more than n different members
pub record HasMoreThan {A : Type 0} (n : ℕ) (xs : List A) : Type 0 where
  pub some : List A
  pub differ : HasNoRepeats some
  pub stand : (x : A) → Member x some → Member x xs
  pub more : n < length some

-- a policy and its subtrees
abbrev pub parts : Policy → List Policy
parts Drop = Drop ∷ []
parts Pass = Pass ∷ []
parts Block = Block ∷ []
parts (Fwd target span) = Fwd target span ∷ []
parts (Match p) = Match p ∷ []
parts (Set set span) = Set set span ∷ []
parts (Both p q) = Both p q ∷ (parts p ++ parts q)
parts (Then p q) = Then p q ∷ (parts p ++ parts q)

-- its atoms have more than 65536 meets
abbrev pub HasManyMeets : Policy → Type 0
HasManyMeets p = 65536 < length (meets (atoms p))

-- its paths have more than 1024 different assignments
abbrev pub HasManyMods : Policy → Type 0
HasManyMods p = HasMoreThan 1024 (mods p)

-- some part has too many of either
pub record IsTooWide (p : Policy) : Type 0 where
  pub part : Policy
  pub stands : Member part (parts p)
  pub wide : HasManyMeets part ⊎ HasManyMods part

-- the same fields are set, to the same
abbrev pub same_assign : Assign → Assign → Bool
same_assign a b = same_option same_ip a.src b.src && (same_option same_ip a.dst b.dst && (same_option nat_eq a.sport b.sport && same_option nat_eq a.dport b.dport))

-- a policy, without its parts, has too many of either, as a test
abbrev pub is_wide_part : Policy → Bool
is_wide_part p = nat_lt 65536 (length (meets (atoms p))) || nat_lt 1024 (length (each_once same_assign (mods p)))

-- some part has too many of either, as a test
abbrev pub is_too_wide : Policy → Bool
is_too_wide p = list_any is_wide_part (parts p)

-- the test says what the relation says
abbrev pub WidthIsTested : Type 0
WidthIsTested = (p : Policy) → is_too_wide p ≡ true ↔ IsTooWide p
