-- Octets whose first is of a kind.
use Rattle.std.specs.Prelude.{◌≡◌, ℕ, Bool, true, List, [], ◌∷◌}

-- There is at least one octet, and the first is of this kind.
abbrev pub StartsIn : (ℕ → Bool) → List ℕ → Type 0
StartsIn test [] = ⊥
StartsIn test (c ∷ s) = test c ≡ true
