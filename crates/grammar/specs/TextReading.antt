-- Reading a text from left to right, one octet ahead. A reader is given the length of the whole text and what is left
-- of it. It gives a value and what is left behind it, or the first fault that it meets.
use Rattle.std.specs.Prelude.{ℕ, zero, suc, ◌-◌, Bool, List, [], ◌∷◌, length, Result, Ok, Err, ◌==◌, if◌then◌else◌}
use Rattle.grammar.specs.Reading.{on_read}

-- At a place: an octet, or the end, with which no text goes on; or a parenthesis that opens one group too many.
pub data Fault : Type 0 where
  Wrong : ℕ → Fault
  Deep : ℕ → Fault

-- A value and what is left, or the fault.
abbrev pub Read : Type 0 → Type 0
Read X = Result (X × List ℕ) Fault

-- From the length of the whole text and what is left of it.
abbrev pub Reader : Type 0 → Type 0
Reader X = ℕ → List ℕ → Read X

-- One after another.
infixl 10 ◌>>=◌
abbrev pub ◌>>=◌ : {X Y : Type 0} → Reader X → (X → Reader Y) → Reader Y
(f >>= g) n s = on_read (f n s) (λ r. g r.0 n r.1)

-- One after another, where the first gives nothing of use.
infixl 10 ◌>>◌
abbrev pub ◌>>◌ : {X Y : Type 0} → Reader X → Reader Y → Reader Y
f >> g = f >>= λ _. g

-- No octet.
abbrev pub pure : {X : Type 0} → X → Reader X
pure x n s = Ok (x, s)

-- The place: how many octets are read.
abbrev pub place : Reader ℕ
place n s = Ok (n - length s, s)

-- A word, octet by octet. The fault is at the first that differs.
abbrev pub read_word : List ℕ → Reader (Unit {0})
read_word [] n s = Ok (tt, s)
read_word (c ∷ w) n [] = Err (Wrong n)
read_word (c ∷ w) n (b ∷ s) = if c == b then read_word w n s else Err (Wrong (n - length (b ∷ s)))

-- What is left behind the octets of a kind.
abbrev pub after_run : (ℕ → Bool) → List ℕ → List ℕ
after_run test [] = []
after_run test (c ∷ s) = if test c then after_run test s else c ∷ s

-- Any number of octets of a kind, as many as there are.
abbrev pub read_run : (ℕ → Bool) → Reader (Unit {0})
read_run test n s = Ok (tt, after_run test s)

-- At least one octet of a kind, and as many as there are.
abbrev pub read_nonempty_run : (ℕ → Bool) → Reader (Unit {0})
read_nonempty_run test n [] = Err (Wrong n)
read_nonempty_run test n (c ∷ s) = if test c then Ok (tt, after_run test s) else Err (Wrong (n - length (c ∷ s)))

-- The part as often as it begins; fuel is at least the number of octets.
abbrev pub read_many : {X Y : Type 0} → ℕ → (ℕ → Bool) → (X → Y → X) → Reader Y → X → Reader X
read_many fuel first join part before n [] = Ok (before, [])
read_many zero first join part before n (c ∷ s) = Ok (before, c ∷ s)
read_many (suc fuel) first join part before n (c ∷ s) =
    if first c then on_read (part n (c ∷ s)) (λ r. read_many fuel first join part (join before r.0) n r.1) else Ok (before, c ∷ s)

-- f where the text begins with such an octet, and else g.
abbrev pub read_either : {X : Type 0} → (ℕ → Bool) → Reader X → Reader X → Reader X
read_either first f g n [] = g n []
read_either first f g n (c ∷ s) = if first c then f n (c ∷ s) else g n (c ∷ s)

-- f where the text begins with such an octet, and else no octet, for x.
abbrev pub read_maybe : {X : Type 0} → (ℕ → Bool) → X → Reader X → Reader X
read_maybe first x f n [] = Ok (x, [])
read_maybe first x f n (c ∷ s) = if first c then f n (c ∷ s) else Ok (x, c ∷ s)
