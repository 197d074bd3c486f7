-- A whole text of a rule without groups is read exactly.
use Rattle.std.proofs.Common.{ℕ, suc, Bool, List, Result, Ok, Err, arith}
use Rattle.grammar.specs.Rules.{Rule}
use Rattle.grammar.specs.TextReading.{Deep, Fault, Reader, Wrong}
use Rattle.grammar.specs.Exactness.{IsExact}
use Rattle.grammar.specs.Texts.{IsDeepFault, IsPlainFault, IsPlainText, Says, read_whole}
use Rattle.grammar.proofs.Texts.{text_said, get_within}

-- What reading a whole text by a rule without groups gave is right.
abbrev pub SaysPlain : {X : Type 0} → Rule X → List ℕ → Result X Fault → Type 0
SaysPlain f text (Ok x) = IsPlainText f text x
SaysPlain f text (Err (Wrong n)) = IsPlainFault f text n
SaysPlain f text (Err (Deep n)) = ⊥

module _ {X : Type 0} (f : Rule X) (follow : ℕ → Bool) (text : List ℕ) where
  -- where one group more changes nothing, none is too many
  never_deep : (p : ℕ) → IsDeepFault (λ _. f) 0 text p → ⊥
  never_deep p h = omega (arith, h.longest (suc p) (get_within p text h.opens) h.begins)

  -- A reader that is exact for the rule reads a whole text rightly.
  pub plain_said : (reader : Reader X) → IsExact (λ _. f) 0 follow reader → SaysPlain f text (read_whole reader text)
  plain_said reader exact = go (read_whole reader text) (text_said (λ _. f) 0 follow text reader exact)
    where
      go : (read : Result X Fault) → Says (λ _. f) 0 text read → SaysPlain f text read
      go (Ok x) h = record { spells = h.spells; only = λ y sp. h.only y (0, sp) }
      go (Err (Wrong n)) h = record { none = λ x sp. h.none x (0, sp); within = h.within; begins = h.begins; longest = λ k le b. h.longest k le (0, b) }
      go (Err (Deep n)) h = never_deep n h
