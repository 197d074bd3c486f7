-- The tokens that texts of this exchange share: names, numbers, addresses, spaces, signs and parentheses.
use Rattle.std.specs.Prelude.{◌≡◌, ℕ, ◌+◌, ◌*◌, ◌-◌, ◌/◌, ◌%◌, ◌≤◌, Bool, true, ◌&&◌, ◌||◌, ◌==◌, nat_le, List, [], ◌∷◌, ◌++◌, length, codes}
use Rattle.std.specs.Fmt.{decimal}
use Rattle.grammar.specs.Octets.{AllPass}
use Rattle.grammar.specs.Rules.{Rule, pure, ◌>>=◌, ◌>>◌, word, run, nonempty_run, token}

-- A letter of either case.
abbrev pub is_letter : ℕ → Bool
is_letter c = (nat_le 65 c && nat_le c 90) || (nat_le 97 c && nat_le c 122)

-- A decimal digit.
abbrev pub is_digit : ℕ → Bool
is_digit c = nat_le 48 c && nat_le c 57

-- A letter, a digit, a dash or a low line.
abbrev pub is_name_octet : ℕ → Bool
is_name_octet c = (is_letter c || is_digit c) || (c == 45 || c == 95)

-- A letter, and then at most 15 octets of a name.
abbrev pub IsName : List ℕ → Type 0
IsName [] = ⊥
IsName (c ∷ s) = (is_letter c ≡ true) × AllPass is_name_octet s × (length s ≤ 15)

-- The number that digits stand for behind the number v: `34` behind 12 gives 1234.
abbrev pub number_from : ℕ → List ℕ → ℕ
number_from v [] = v
number_from v (c ∷ s) = number_from (v * 10 + (c - 48)) s

-- The number that digits stand for.
abbrev pub number_of : List ℕ → ℕ
number_of s = number_from 0 s

-- Digits without a leading zero, for a number from low to high. `0` has no leading zero.
abbrev pub IsNumber : ℕ → ℕ → List ℕ → Type 0
IsNumber low high [] = ⊥
IsNumber low high (c ∷ s) = (is_digit c ≡ true) × AllPass is_digit s × (c ≡ 48 → s ≡ []) × (low ≤ number_of (c ∷ s)) × (number_of (c ∷ s) ≤ high)

-- A name. Its front `A` begins it, and so does no octet.
abbrev pub name : Rule (List ℕ)
name = token IsName (λ s. s)

-- A number from low to high.
abbrev pub number : ℕ → ℕ → Rule ℕ
number low high = token (IsNumber low high) number_of

-- The octet of a space.
abbrev pub is_space : ℕ → Bool
is_space c = c == 32

-- Any number of spaces.
abbrev pub spaces : Rule (Unit {0})
spaces = run is_space

-- At least one space.
abbrev pub gap : Rule (Unit {0})
gap = nonempty_run is_space

-- A word or a sign, and any number of spaces behind it.
abbrev pub sign : List ℕ → Rule (Unit {0})
sign w = word w >> spaces

-- What inner spells, in parentheses.
abbrev pub parens : {X : Type 0} → Rule X → Rule X
parens inner = do
  sign (codes "(")
  x ← inner
  sign (codes ")")
  pure x

-- Four numbers with dots between them, as the number of 32 bits that they stand for: `1.0.0.2` is 16777218.
abbrev pub address : Rule ℕ
address = do
  a ← number 0 255
  word (codes ".")
  b ← number 0 255
  word (codes ".")
  c ← number 0 255
  word (codes ".")
  d ← number 0 255
  pure (((a * 256 + b) * 256 + c) * 256 + d)

-- How such an address is written.
abbrev pub address_text : ℕ → List ℕ
address_text ip = decimal (ip / 16777216) ++ codes "." ++ decimal (ip / 65536 % 256) ++ codes "." ++ decimal (ip / 256 % 256) ++ codes "." ++ decimal (ip % 256)
