-- Reading the tokens that texts share.
use Rattle.std.specs.Prelude.{ℕ, ◌+◌, ◌-◌, ◌*◌, List, [], ◌∷◌, length, take, drop, codes, Ok, Err, ◌&&◌, nat_lt, nat_le, if◌then◌else◌}
use Rattle.std.specs.List.{prefix_len}
use Rattle.grammar.specs.Octets.{among}
use Rattle.grammar.specs.Tokens.{is_letter, is_digit, is_name_octet, is_space}
use Rattle.grammar.specs.TextReading.{Wrong, Deep, Reader, ◌>>=◌, ◌>>◌, pure, read_word, read_run, read_nonempty_run}

-- How many octets of a name stand behind its first.
abbrev pub name_len : List ℕ → ℕ
name_len s = prefix_len is_name_octet (take 15 s)

-- A letter, and then as many octets of a name as there are, up to 15.
abbrev pub read_name : Reader (List ℕ)
read_name n [] = Err (Wrong n)
read_name n (c ∷ s) =
    if is_letter c then Ok (c ∷ take (name_len s) s, drop (name_len s) s) else Err (Wrong (n - length (c ∷ s)))

-- The digits that go on with the number v, while it stays at most high: of `65280` up to 65279 these are `6528`.
abbrev pub digits_from : ℕ → ℕ → List ℕ → ℕ × List ℕ
digits_from high v [] = (v, [])
digits_from high v (c ∷ s) =
    if is_digit c && (nat_lt 0 v && nat_le (v * 10 + (c - 48)) high) then digits_from high (v * 10 + (c - 48)) s else (v, c ∷ s)

-- A number from low to high, where low is 0 or 1.
abbrev pub read_number : ℕ → ℕ → Reader ℕ
read_number low high n [] = Err (Wrong n)
read_number low high n (c ∷ s) =
    if is_digit c && nat_le low (c - 48) then Ok (digits_from high (c - 48) s) else Err (Wrong (n - length (c ∷ s)))

-- Any number of spaces.
abbrev pub read_spaces : Reader (Unit {0})
read_spaces = read_run is_space

-- At least one space.
abbrev pub read_gap : Reader (Unit {0})
read_gap = read_nonempty_run is_space

-- A word or a sign, and the spaces behind it.
abbrev pub read_sign : List ℕ → Reader (Unit {0})
read_sign w = read_word w >> read_spaces

-- What inner reads, in parentheses.
unfoldable pub read_parens : {X : Type 0} → Reader X → Reader X
read_parens inner = do
  read_sign (codes "(")
  p ← inner
  read_sign (codes ")")
  pure p

-- Where no group may be opened: an opening parenthesis is one too many, and all else is wrong.
unfoldable pub read_too_deep : {X : Type 0} → Reader X
read_too_deep n [] = Err (Wrong n)
read_too_deep n (c ∷ s) = if among (codes "(") c then Err (Deep (n - length (c ∷ s))) else Err (Wrong (n - length (c ∷ s)))

-- Four numbers with dots between them.
unfoldable pub read_address : Reader ℕ
read_address = do
  a ← read_number 0 255
  read_word (codes ".")
  b ← read_number 0 255
  read_word (codes ".")
  c ← read_number 0 255
  read_word (codes ".")
  d ← read_number 0 255
  pure (((a * 256 + b) * 256 + c) * 256 + d)
