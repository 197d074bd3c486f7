-- The results of each cube.
use Rattle.std.specs.Prelude.{◌≡◌, ◌<◌, ◌/◌, ◌==◌, ℕ, Bool, true, List, [], ◌∷◌, if◌then◌else◌, slice_index_or}
use Rattle.net_types.specs.declared.headers.Loc.{Loc}
use Rattle.net_types.specs.Sets.{HasNoRepeats, Member, SameMembers, union_over}
use Rattle.classifier.specs.Items.{Item}
use Rattle.policy_compile.specs.declared.columns.Key.{Key}
use Rattle.policy_compile.specs.declared.columns.Column.{Column}
use Rattle.policy_compile.specs.declared.rows.Row.{Row}
use Rattle.policy_compile.specs.Columns.{Places, set_at}
use Rattle.policy_compile.specs.Groups.{alone}

-- the keys of the columns that have the set of a number
abbrev pub keys_with : ℕ → List Column → List Key
keys_with n [] = []
keys_with n (c ∷ cs) = if c.set == n then c.key ∷ keys_with n cs else keys_with n cs

-- the list of a number; none where there is none
abbrev pub list_at : List (List Item) → ℕ → List Item
list_at lists n = slice_index_or lists n []

-- the lists of some numbers, one after another
abbrev pub joined : List (List Item) → List ℕ → List Item
joined lists numbers = union_over (list_at lists) numbers

-- each list has the results of the columns that have the set of its number
abbrev pub AreLists : List Loc → List Column → List (List Item) → Type 0
AreLists locations columns lists = (n : ℕ) → list_at lists n ≡ alone locations (keys_with n columns)

-- numbers of sets below one, each once; those of which a list has results and the set has places in a word are there
pub record AreNear (sets : List Places) (lists : List (List Item)) (word count : ℕ) (numbers : List ℕ) : Type 0 where
  pub once : HasNoRepeats numbers
  pub below : (n : ℕ) → Member n numbers → n < count
  pub all : (n k : ℕ) (x : Item) → n < count → Member x (list_at lists n) → set_at sets n k ≡ true → k / 64 ≡ word → Member n numbers

-- where the lists are said to be distinct, no result stands in them twice, and each row has the results of the lists of its numbers
pub record AreRows (lists : List (List Item)) (is_distinct : Bool) (rows : List Row) : Type 0 where
  pub once : is_distinct ≡ true → HasNoRepeats (union_over (λ l. l) lists)
  pub are : (row : Row) → Member row rows → SameMembers row.results (joined lists row.numbers.items)
