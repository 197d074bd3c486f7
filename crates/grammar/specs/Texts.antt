-- Whole texts: what they spell, and where they are wrong.
use Rattle.std.specs.Prelude.{◌≡◌, ℕ, suc, ◌-◌, ◌≤◌, Some, List, [], ◌∷◌, length, take, slice_get, Result, Ok, Err}
use Rattle.grammar.specs.Rules.{Rule}
use Rattle.grammar.specs.TextReading.{Fault, Wrong, Deep, Read, Reader}
use Rattle.grammar.specs.Exactness.{Family}

-- The text spells x, however many groups are open at once.
abbrev pub SpellsText : {X : Type 0} → Family X → List ℕ → X → Type 0
SpellsText f text x = (d : ℕ) × (f d).Spells 0 text x

-- The octets begin a text, however many groups are open at once.
abbrev pub BeginsText : {X : Type 0} → Family X → List ℕ → Type 0
BeginsText f octets = (d : ℕ) × (f d).Begins 0 octets

-- The text spells x with no more than limit groups open at once, and at no number of groups anything else.
pub record IsText {X : Type 0} (f : Family X) (limit : ℕ) (text : List ℕ) (x : X) : Type 0 where
  pub spells : (f limit).Spells 0 text x
  pub only : (y : X) → SpellsText f text y → y ≡ x

-- The text spells nothing, and n octets are its longest front that begins a text. No group too many is opened in it.
-- For `ab)`, where a text is letters, n is 2.
pub record IsSyntaxFault {X : Type 0} (f : Family X) (limit : ℕ) (text : List ℕ) (n : ℕ) : Type 0 where
  pub none : (x : X) → SpellsText f text x → ⊥
  pub within : n ≤ length text
  pub begins : (f limit).Begins 0 (take n text)
  pub longest : (k : ℕ) → k ≤ length text → BeginsText f (take k text) → k ≤ n

-- The octet at n is a `(` that opens one group more than limit allows; the text up to it begins a text with limit groups,
-- and with it one with a group more. With the limit 1, n is 1 in `((`.
pub record IsDeepFault {X : Type 0} (f : Family X) (limit : ℕ) (text : List ℕ) (n : ℕ) : Type 0 where
  pub opens : slice_get text n ≡ Some 40
  pub begins : (f (suc limit)).Begins 0 (take (suc n) text)
  pub before : (f limit).Begins 0 (take n text)
  pub longest : (k : ℕ) → k ≤ length text → (f limit).Begins 0 (take k text) → k ≤ n
  pub none : (x : X) → (f limit).Spells 0 text x → ⊥

-- Nothing may stand behind the value.
abbrev pub at_end : {X : Type 0} → List ℕ → X → List ℕ → Result X Fault
at_end text x [] = Ok x
at_end text x (c ∷ s) = Err (Wrong (length text - length (c ∷ s)))

-- What reading a front of the text gives, where it has to be the whole.
abbrev pub finish : {X : Type 0} → List ℕ → Read X → Result X Fault
finish text (Err e) = Err e
finish text (Ok r) = at_end text r.0 r.1

-- Reads a whole text.
unfoldable pub read_whole : {X : Type 0} → Reader X → List ℕ → Result X Fault
read_whole reader text = finish text (reader (length text) text)

-- What reading a whole text gave is right.
abbrev pub Says : {X : Type 0} → Family X → ℕ → List ℕ → Result X Fault → Type 0
Says f limit text (Ok x) = IsText f limit text x
Says f limit text (Err (Wrong n)) = IsSyntaxFault f limit text n
Says f limit text (Err (Deep n)) = IsDeepFault f limit text n

-- The text spells x by a rule without groups, and nothing else.
pub record IsPlainText {X : Type 0} (f : Rule X) (text : List ℕ) (x : X) : Type 0 where
  pub spells : f.Spells 0 text x
  pub only : (y : X) → f.Spells 0 text y → y ≡ x

-- The text spells nothing by a rule without groups, and n octets are its longest front that begins a text.
pub record IsPlainFault {X : Type 0} (f : Rule X) (text : List ℕ) (n : ℕ) : Type 0 where
  pub none : (x : X) → f.Spells 0 text x → ⊥
  pub within : n ≤ length text
  pub begins : f.Begins 0 (take n text)
  pub longest : (k : ℕ) → k ≤ length text → f.Begins 0 (take k text) → k ≤ n
