-- The entries of a table's places.
use Rattle.std.specs.Prelude.{◌≡◌, ℕ, ◌+◌, ◌^◌, ◌<◌, Option, None, Some, List, [], ◌∷◌, length, slice_get}
use Rattle.std.specs.Borrow.{Bor}
use Rattle.std.specs.Option.{option_flatten}
use Rattle.net_types.specs.declared.address.Tag.{Tag}

-- the tag of a number
abbrev pub tag_of : ℕ → Tag
tag_of n = record { 0 = n }

-- those of places whose first has this number
abbrev pub entries_from : {V : Type 0} → ℕ → List (Option V) → List (Tag × V)
entries_from n [] = []
entries_from n (None ∷ places) = entries_from (n + 1) places
entries_from n (Some v ∷ places) = (tag_of n, v) ∷ entries_from (n + 1) places

-- those of a table
abbrev pub entries_of : {V : Type 0} → List (Option V) → List (Tag × V)
entries_of places = entries_from 0 places

-- the value at a place, where there is one
abbrev pub value_in : {V : Type 0} → List (Option V) → ℕ → Option V
value_in places n = option_flatten (slice_get places n)

-- an entry that is lent
abbrev pub deref_value : {V : Type 0} → Tag × Bor V → Tag × V
deref_value e = (e.0, e.1.now)

-- the count is right, and each number is one of a tag
pub record IsTable {V : Type 0} (places : List (Option V)) (count : ℕ) : Type 0 where
  pub counted : count ≡ length (entries_of places)
  pub few : length places < 2 ^ 32
