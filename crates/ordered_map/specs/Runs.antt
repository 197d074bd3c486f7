-- Where a key stands among entries, or belongs.
use Rattle.std.specs.Prelude.{◌≡◌, ℕ, ◌≤◌, Option, None, Some, List, [], ◌∷◌, ◌++◌, length, slice_index_or}
use Rattle.std.specs.Borrow.{Bor}
use Rattle.std.specs.declared.cmp.Ordering.{Ordering}
use Rattle.std.specs.declared.cmp.Ordering.TheVariants.{Less, Equal, Greater}
use Rattle.ordered_map.specs.declared.run.Place.{Place}
use Rattle.ordered_map.specs.declared.run.Place.TheVariants.{Held, Free, Beyond}

-- a key is greater than each of these
abbrev pub IsPast : {K V : Type 0} → (K → K → Ordering) → K → List (K × V) → Type 0
IsPast R q [] = Unit {0}
IsPast R q (e ∷ es) = (R q e.0 ≡ Greater) × IsPast R q es

-- the entry at a place, which is the first that a key isn't greater than, and how the key lies to it
pub record IsFirst {K V : Type 0} (R : K → K → Ordering) (q : K) (es : List (K × V)) (place : ℕ) (order : Ordering) : Type 0 where
  pub before : List (K × V)
  pub entry : K × V
  pub after : List (K × V)
  pub whole : es ≡ before ++ entry ∷ after
  pub size : place ≡ length before
  pub past : IsPast R q before
  pub here : R q entry.0 ≡ order

-- a key is less than the entry at a place
abbrev pub IsLess : {K V : Type 0} → (K → K → Ordering) → K → List (K × V) → ℕ → Type 0
IsLess {K} {V} R q es place = (e : K × V) → R q (slice_index_or es place e).0 ≡ Less

-- the key itself there, a greater one, or none
abbrev pub IsPlaced : {K V : Type 0} → (K → K → Ordering) → K → List (K × V) → Place → Type 0
IsPlaced R q es (Held place) = IsFirst R q es place Equal
IsPlaced R q es (Free place) = IsFirst R q es place Less
IsPlaced R q es Beyond = IsPast R q es

-- the entries of a run, where there is one
abbrev pub run_entries : {K V : Type 0} → Option (Bor (List (K × V))) → List (K × V)
run_entries None = []
run_entries (Some run) = run.now

-- so many entries at most, which fit
pub record IsRun (size capacity : ℕ) : Type 0 where
  pub few : size ≤ 15
  pub fits : 15 ≤ capacity

-- the value at a place changed
abbrev pub IsChanged : {K V : Type 0} → (V → V) → List (K × V) → ℕ → List (K × V) → Type 0
IsChanged {K} {V} f es place fs = (before : List (K × V)) (e : K × V) (after : List (K × V)) → es ≡ before ++ e ∷ after → place ≡ length before → fs ≡ before ++ (e.0, f e.1) ∷ after

-- the value at a place exchanged for one that is handed in
abbrev pub IsExchanged : {K V : Type 0} → List (K × V) → ℕ → Option V → Option V → List (K × V) → Type 0
IsExchanged {K} {V} es place given back fs = (before : List (K × V)) (e : K × V) (after : List (K × V)) → es ≡ before ++ e ∷ after → place ≡ length before → (v : V) → given ≡ Some v → (fs ≡ before ++ (e.0, v) ∷ after) × (back ≡ Some e.1)
