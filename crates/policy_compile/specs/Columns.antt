-- Results, with the cubes in which they are given.
use Rattle.std.specs.Prelude.{◌≡◌, ◌<◌, ◌≤◌, ◌&&◌, ◌||◌, ℕ, Bool, true, false, Option, Some, None, List, [], ◌∷◌, if◌then◌else◌, length, unwrap_or}
use Rattle.std.specs.Option.{option_map}
use Rattle.std.specs.List.{slice_get}
use Rattle.net_types.specs.declared.cube.Cube.{Cube}
use Rattle.net_types.specs.Cubes.{lies_within_cube}
use Rattle.net_types.specs.Policies.{Pred}
use Rattle.net_types.specs.Sets.{Member}
use Rattle.policy_compile.specs.declared.memo.Noted.{Noted}
use Rattle.policy_compile.specs.declared.columns.Pair.{Pair}
use Rattle.policy_compile.specs.declared.columns.Column.{Column}
use Rattle.policy_compile.specs.declared.columns.Key.{Key}
use Rattle.policy_compile.specs.declared.outcomes.Outcome.{Outcome}
use Rattle.policy_compile.specs.declared.outcomes.Outcome.TheVariants.{All, Nowhere, In}
use Rattle.policy_compile.specs.declared.stages.Tested.{Tested}
use Rattle.place_sets.specs.Places.{has_place}
use Rattle.policy_compile.specs.Paths.{pred_at}

-- a set of places
abbrev pub Places : Type 0
Places = List ℕ

-- the set that has a number; no places where there is none
abbrev pub set_at : List Places → ℕ → ℕ → Bool
set_at sets n = has_place (unwrap_or (slice_get sets n) [])

-- each set of the first keeps its number in the second
abbrev pub KeepSets : List Places → List Places → Type 0
KeepSets old new = (n : ℕ) (s : Places) → slice_get old n ≡ Some s → slice_get new n ≡ Some s

-- the second number is that of the same set as the first
pub record IsCarried (old new : List Places) (n m : ℕ) : Type 0 where
  pub inside : m < length new
  pub is : (k : ℕ) → set_at new m k ≡ set_at old n k

-- the same of all that was noted
abbrev pub AreCarried : List Places → List Places → List (Noted ℕ ℕ) → Type 0
AreCarried old new noted = (e : Noted ℕ ℕ) → Member e noted → IsCarried old new e.key e.value

-- ---- what a predicate tells of all cubes

-- of the cube at each place the set tells what the function does of both
abbrev pub TellsAt : List Cube → (ℕ → Cube → Bool) → (ℕ → Bool) → Type 0
TellsAt cubes f s = (k : ℕ) (m : Cube) → slice_get cubes k ≡ Some m → s k ≡ f k m

-- of the cube at each place the set tells what the function does
abbrev pub TellsSet : List Cube → (Cube → Bool) → (ℕ → Bool) → Type 0
TellsSet cubes f s = TellsAt cubes (λ k m. f m) s

-- what an outcome tells of a place
abbrev pub outcome_at : Outcome → ℕ → Bool
outcome_at All k = true
outcome_at Nowhere k = false
outcome_at (In s) k = has_place s k

-- of the cube at each place the outcome tells what the function does
abbrev pub Tells : List Cube → (Cube → Bool) → Outcome → Type 0
Tells cubes f o = TellsSet cubes f (outcome_at o)

-- the number is that of the set of the cubes that lie within one
pub record IsWithin (cubes : List Cube) (sets : List Places) (c : Cube) (n : ℕ) : Type 0 where
  pub inside : n < length sets
  pub tells : TellsSet cubes (λ m. lies_within_cube m c) (set_at sets n)

-- the one set has the places of all cubes, and what was noted holds
pub record AreWithin (cubes : List Cube) (all : Places) (sets : List Places) (found : List (Noted Cube ℕ)) : Type 0 where
  pub all_are : TellsSet cubes (λ m. true) (has_place all)
  pub found_are : (e : Noted Cube ℕ) → Member e found → IsWithin cubes sets e.key e.value

-- ---- columns

-- the keys that are given at a place
abbrev pub given : List Places → List Column → ℕ → List Key
given sets [] k = []
given sets (c ∷ cs) k = if set_at sets c.set k then c.key ∷ given sets cs k else given sets cs k

-- the numbers of the keys are below one
abbrev pub AreBelow : ℕ → List Column → Type 0
AreBelow n columns = (c : Column) → Member c columns → c.key.number < n

-- the number is that of both sets' places
pub record IsUnion (sets : List Places) (p : Pair) (n : ℕ) : Type 0 where
  pub first : p.first < length sets
  pub second : p.second < length sets
  pub inside : n < length sets
  pub is : (k : ℕ) → set_at sets n k ≡ (set_at sets p.first k || set_at sets p.second k)

-- at the place stands a column of the key
abbrev pub IsPlaceOf : List Column → Key → ℕ → Type 0
IsPlaceOf columns key place = option_map (λ (c : Column). c.key) (slice_get columns place) ≡ Some key

-- each column's set is there, and what was noted holds
pub record AreColumns (sets : List Places) (columns : List Column) (unions : List (Noted Pair ℕ)) (places : List (Noted Key ℕ)) : Type 0 where
  pub inside : (c : Column) → Member c columns → c.set < length sets
  pub unions_are : (e : Noted Pair ℕ) → Member e unions → IsUnion sets e.key e.value
  pub places_are : (e : Noted Key ℕ) → Member e places → IsPlaceOf columns e.key e.value

-- ---- tests

-- of those at the places below one that lie within a cube the set has the places, and no others
pub record IsWithinBefore (cubes : List Cube) (outer : Cube) (s : Places) (n : ℕ) : Type 0 where
  pub below : (k : ℕ) (m : Cube) → slice_get cubes k ≡ Some m → k < n → has_place s k ≡ lies_within_cube m outer
  pub above : (k : ℕ) → n ≤ k → has_place s k ≡ false

-- the set of a number, if any
abbrev pub set_of : List Places → Option ℕ → ℕ → Bool
set_of sets None k = false
set_of sets (Some n) k = set_at sets n k

-- the number is that of a set
abbrev pub IsInside : List Places → Option ℕ → Type 0
IsInside sets None = Unit {0}
IsInside sets (Some n) = n < length sets

-- the second number is that of the places of a set at which a predicate holds behind an assignment
pub record IsKept (cubes : List Cube) (p : Pred) (old new : List Places) (x : Tested) (n : Option ℕ) : Type 0 where
  pub inside : IsInside new n
  pub is : TellsAt cubes (λ k m. set_at old x.places k && pred_at m x.set p) (set_of new n)

-- the same of all that was noted
abbrev pub AreKept : List Cube → Pred → List Places → List Places → List (Noted Tested (Option ℕ)) → Type 0
AreKept cubes p old new noted = (e : Noted Tested (Option ℕ)) → Member e noted → IsKept cubes p old new e.key e.value
