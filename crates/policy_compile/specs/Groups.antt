-- Results by assignments with sets of locations, and the sets of the cubes in which they are given.
use Rattle.std.specs.Prelude.{◌≡◌, ◌<◌, ℕ, suc, Bool, List, [], ◌∷◌, if◌then◌else◌, length, map, Option}
use Rattle.std.specs.Option.{option_map, option_to_list}
use Rattle.std.specs.List.{slice_get}
use Rattle.net_types.specs.declared.headers.Loc.{Loc}
use Rattle.net_types.specs.declared.headers.Assign.{Assign}
use Rattle.net_types.specs.Headers.{arrived}
use Rattle.net_types.specs.Sets.{Member, SameMembers, union_over}
use Rattle.classifier.specs.Items.{Item}
use Rattle.policy_compile.specs.declared.memo.Noted.{Noted}
use Rattle.policy_compile.specs.declared.columns.Key.{Key}
use Rattle.policy_compile.specs.declared.columns.Column.{Column}
use Rattle.policy_compile.specs.Columns.{Places, set_at}

-- the locations whose places are in a set
abbrev pub picked : List Loc → (ℕ → Bool) → List Loc
picked [] f = []
picked (l ∷ ls) f = if f 0 then l ∷ picked ls (λ k. f (suc k)) else picked ls (λ k. f (suc k))

-- an assignment with each of some locations
abbrev pub with_each : Assign → List Loc → List Item
with_each set ls = map (λ (l : Loc). (set, l)) ls

-- a key's assignment with each location of the set that has its number
abbrev pub ways_of : List Loc → List Places → Key → List Item
ways_of locations ways key = with_each key.set (picked locations (set_at ways key.number))

-- ---- what is done after results

-- whoever goes from one of the locations stays among them
abbrev pub IsClosed : List Loc → Loc → Type 0
IsClosed locations loc = (l : Loc) → Member l locations → Member (arrived l loc) locations

-- the second number is that of the set to which one goes from the locations of the first
pub record IsMoved (locations : List Loc) (loc : Loc) (old new : List Places) (n m : ℕ) : Type 0 where
  pub inside : m < length new
  pub same : SameMembers (picked locations (set_at new m)) (map (λ l. arrived l loc) (picked locations (set_at old n)))

-- the same of all that was noted
abbrev pub AreMoved : List Loc → Loc → List Places → List Places → List (Noted ℕ ℕ) → Type 0
AreMoved locations loc old new noted = (e : Noted ℕ ℕ) → Member e noted → IsMoved locations loc old new e.key e.value

-- ---- columns that are turned

-- the assignments of the columns whose key's number has a set with the place, with the numbers of the columns' sets
abbrev pub turned : List Places → List Column → ℕ → List Key
turned sets [] j = []
turned sets (c ∷ cs) j = if set_at sets c.key.number j then record { set = c.key.set; number = c.set } ∷ turned sets cs j else turned sets cs j

-- ---- each result by itself

-- of a key that has the place of a location, the result
abbrev pub result_of : List Loc → Key → List Item
result_of locations key = option_to_list (option_map (λ (l : Loc). (key.set, l)) (slice_get locations key.number))

-- the results of such keys
abbrev pub alone : List Loc → List Key → List Item
alone locations keys = union_over (result_of locations) keys
