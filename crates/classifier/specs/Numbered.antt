-- Rules whose results have numbers.
use Rattle.std.specs.Prelude.{◌≡◌, ◌==◌, ℕ, Bool, ◌&&◌, Some, List, [], map, unwrap_or}
use Rattle.std.specs.List.{slice_get}
use Rattle.std.specs.HashMap.{HashMap, get}
use Rattle.std.specs.declared.hash.FoldHasher.{FoldHasher}
use Rattle.std.specs.declared.hash.BuildHasherDefault.{BuildHasherDefault}
use Rattle.classifier.specs.declared.line.Line.{Line}
use Rattle.classifier.specs.declared.joins.Pair.{Pair}
use Rattle.classifier.specs.Items.{Item, add_all}

-- the results of each rule are the list that has its number
abbrev pub AreNumbered : List (List Item) → List Line → List ℕ → Type 0
AreNumbered lists lines numbers = map (λ (n : ℕ). slice_get lists n) numbers ≡ map (λ (x : Line). Some x.results) lines

-- each list of the first keeps its number in the second
abbrev pub KeepNumbers : List (List Item) → List (List Item) → Type 0
KeepNumbers old new = (n : ℕ) (xs : List Item) → slice_get old n ≡ Some xs → slice_get new n ≡ Some xs

-- the pairs are equal, number by number
abbrev pub pair_eq : Pair → Pair → Bool
pair_eq p q = (p.first == q.first) && (p.second == q.second)

-- numbers by pairs
abbrev pub Made : Type 0
Made = HashMap Pair ℕ (BuildHasherDefault FoldHasher)

-- the list that has a number; none where no list has it
abbrev pub list_at : List (List Item) → ℕ → List Item
list_at lists n = unwrap_or (slice_get lists n) []

-- the number that was noted of two lists is that of their union
abbrev pub AreUnions : List (List Item) → List (List Item) → Made → List (List Item) → Type 0
AreUnions firsts seconds made lists = (p : Pair) (n : ℕ) → get pair_eq made p ≡ Some n → slice_get lists n ≡ Some (add_all (list_at firsts p.first) (list_at seconds p.second))
