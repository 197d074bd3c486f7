-- Lists of octets and kinds of octets, with which rules and formats are said.
use Rattle.std.specs.Prelude.{◌≡◌, ℕ, Bool, true, false, ◌||◌, ◌==◌, List, [], ◌∷◌}

-- The octet c is in the table.
abbrev pub among : List ℕ → ℕ → Bool
among [] c = false
among (x ∷ xs) c = (c == x) || among xs c

-- There is a next octet, and it is of this kind.
abbrev pub next_is : (ℕ → Bool) → List ℕ → Bool
next_is test [] = false
next_is test (c ∷ s) = test c

-- Each octet is of this kind.
abbrev pub AllPass : (ℕ → Bool) → List ℕ → Type 0
AllPass test [] = Unit {0}
AllPass test (c ∷ s) = (test c ≡ true) × AllPass test s

-- There is at least one octet.
abbrev pub IsLonger : List ℕ → Type 0
IsLonger [] = ⊥
IsLonger (c ∷ s) = Unit {0}

-- There is no octet, or the first is of this kind.
abbrev pub Follows : (ℕ → Bool) → List ℕ → Type 0
Follows test [] = Unit {0}
Follows test (c ∷ s) = test c ≡ true

-- The octets n are none, or their first is the first of m.
abbrev pub StartsAs : List ℕ → List ℕ → Type 0
StartsAs m [] = Unit {0}
StartsAs [] (c ∷ n) = ⊥
StartsAs (b ∷ m) (c ∷ n) = b ≡ c
