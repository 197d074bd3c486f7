-- Reading a message from left to right, check by check. A reader gives a value and the octets that are left, or the
-- first fault.
use Rattle.std.specs.Prelude.{ℕ, zero, suc, ◌+◌, ◌*◌, Bool, List, [], ◌∷◌, length, take, drop, Result, Ok, Err, nat_lt, if◌then◌else◌}
use Rattle.grammar.specs.Reading.{on_read}

-- A value and what is left, or the fault.
abbrev pub Read : Type 0 → Type 0 → Type 0
Read F X = Result (X × List ℕ) F

-- From what is left of the message.
abbrev pub Reader : Type 0 → Type 0 → Type 0
Reader F X = List ℕ → Read F X

-- One after another.
infixl 10 ◌>>=◌
abbrev pub ◌>>=◌ : {F X Y : Type 0} → Reader F X → (X → Reader F Y) → Reader F Y
(f >>= g) s = on_read (f s) (λ r. g r.0 r.1)

-- One after another, where the first gives nothing of use.
infixl 10 ◌>>◌
abbrev pub ◌>>◌ : {F X Y : Type 0} → Reader F X → Reader F Y → Reader F Y
f >> g = f >>= λ _. g

-- No octet.
abbrev pub pure : {F X : Type 0} → X → Reader F X
pure x s = Ok (x, s)

-- One octet.
abbrev pub read_octet : {F : Type 0} → F → Reader F ℕ
read_octet fault [] = Err fault
read_octet fault (c ∷ s) = Ok (c, s)

-- So many octets.
abbrev pub read_octets : {F : Type 0} → ℕ → F → Reader F (List ℕ)
read_octets n fault s = if nat_lt (length s) n then Err fault else Ok (take n s, drop n s)

-- A test.
abbrev pub read_ensure : {F : Type 0} → Bool → F → Reader F (Unit {0})
read_ensure test fault s = if test then Ok (tt, s) else Err fault

-- Exactly n items.
unfoldable pub read_times : {F X : Type 0} → ℕ → Reader F X → Reader F (List X)
read_times zero item = pure []
read_times (suc n) item = do
  x ← item
  xs ← read_times n item
  pure (x ∷ xs)

-- The items of a block; fuel is at least the number of octets.
abbrev pub read_all : {F S X : Type 0} → ℕ → (S → Reader F X) → (S → X → S) → S → List ℕ → Result (List X) F
read_all fuel part next state [] = Ok []
read_all zero part next state (c ∷ s) = Ok []
read_all (suc fuel) part next state (c ∷ s) =
    on_read (part state (c ∷ s)) (λ r. on_read (read_all fuel part next (next state r.0) r.1) (λ xs. Ok (r.0 ∷ xs)))

-- A block that was taken before.
abbrev pub read_block : {F S X : Type 0} → (S → Reader F X) → (S → X → S) → S → List ℕ → Reader F (List X)
read_block part next state inner s = on_read (read_all (length inner) part next state inner) (λ xs. Ok (xs, s))

-- The octets as items to their end, none of which depends on another.
abbrev pub read_items : {F X : Type 0} → Reader F X → List ℕ → Result (List X) F
read_items item s = read_all {S = Unit {0}} (length s) (λ _. item) (λ _ _. tt) tt s

-- A message to its end: f, then items, then a test of both.
unfoldable pub read_to_end : {F X Y Z : Type 0} → Reader F X → Reader F Y → (X → List Y → Bool) → F → (X → List Y → Z) → List ℕ → Result Z F
read_to_end f item test fault make s =
    on_read (f s) (λ r. on_read (read_items item r.1) (λ ys. if test r.0 ys then Ok (make r.0 ys) else Err fault))

-- A number of two octets.
unfoldable pub read_two_octets : {F : Type 0} → F → Reader F ℕ
read_two_octets fault = do
  a ← read_octet fault
  b ← read_octet fault
  pure (a * 256 + b)

-- A number of four octets.
unfoldable pub read_four_octets : {F : Type 0} → F → Reader F ℕ
read_four_octets fault = do
  a ← read_two_octets fault
  b ← read_two_octets fault
  pure (a * 65536 + b)
