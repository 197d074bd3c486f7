-- What a function that answers as a reading of a whole text does may promise.
use Rattle.std.proofs.Common.{◌≡◌, ℕ, Bool, List, Result, Ok, Err, sym, subst}
use Rattle.std.specs.Prelude.{IfOk, IfErr, MatchResult}
use Rattle.grammar.specs.Rules.{Rule}
use Rattle.grammar.specs.Reading.{Cause, Met, OutOfMemory, Unread, Tells, Gives}
use Rattle.grammar.specs.TextReading.{Fault, Wrong, Deep, Reader}
use Rattle.grammar.specs.Exactness.{Family, IsExact}
use Rattle.grammar.specs.Texts.{Says, IsDeepFault, IsPlainFault, IsPlainText, IsSyntaxFault, IsText, read_whole}
use Rattle.grammar.proofs.Texts.{text_said}
use Rattle.grammar.proofs.PlainTexts.{SaysPlain, plain_said}

-- Why a whole text was refused. Nothing is said where memory ran out.
abbrev pub IsTextCause : {X : Type 0} → Family X → ℕ → List ℕ → Cause Fault → Type 0
IsTextCause f limit text (Met (Wrong n)) = IsSyntaxFault f limit text n
IsTextCause f limit text (Met (Deep n)) = IsDeepFault f limit text n
IsTextCause f limit text OutOfMemory = Unit {0}
IsTextCause f limit text Unread = ⊥

-- Why a whole text of a rule without groups was refused. Nothing is said where memory ran out.
abbrev pub IsPlainCause : {X : Type 0} → Rule X → List ℕ → Cause Fault → Type 0
IsPlainCause f text (Met (Wrong n)) = IsPlainFault f text n
IsPlainCause f text (Met (Deep n)) = ⊥
IsPlainCause f text OutOfMemory = Unit {0}
IsPlainCause f text Unread = ⊥

module _ {X Y E : Type 0} (cause : E → Cause Fault) (view : X → Y) (text : List ℕ) (follow : ℕ → Bool) (reader : Reader Y) where
  module _ (f : Family Y) (d : ℕ) (exact : IsExact f d follow reader) where
    said : (r : Result Y Fault) → read_whole reader text ≡ r → Says f d text r
    said r e = subst (Says f d text) e (text_said f d follow text reader exact)

    -- What is answered is what the text spells.
    pub text_ok : (result : Result X E) → Gives cause view result (read_whole reader text) → IfOk result (λ x. IsText f d text (view x))
    text_ok (Ok x) h = said (Ok (view x)) h
    text_ok (Err e) h = tt

    caused : (c : Cause Fault) → Tells c (read_whole reader text) → IsTextCause f d text c
    caused (Met (Wrong n)) h = said (Err (Wrong n)) h
    caused (Met (Deep n)) h = said (Err (Deep n)) h
    caused OutOfMemory h = tt
    caused Unread h = h

    -- The error says why the text was refused.
    pub text_err : (result : Result X E) → Gives cause view result (read_whole reader text) → IfErr result (λ e. IsTextCause f d text (cause e))
    text_err (Ok x) h = tt
    text_err (Err e) h = caused (cause e) h

    missed : (y : Y) → (f d).Spells 0 text y → (c : Cause Fault) → Tells c (read_whole reader text) → c ≡ OutOfMemory
    missed y sp (Met (Wrong n)) h = absurd ((said (Err (Wrong n)) h).none y (d, sp))
    missed y sp (Met (Deep n)) h = absurd ((said (Err (Deep n)) h).none y sp)
    missed y sp OutOfMemory h = λ i. OutOfMemory
    missed y sp Unread h = absurd h

    -- What the text spells is answered, unless memory ran out.
    pub text_found : (result : Result X E) → Gives cause view result (read_whole reader text) → (y : Y) → (f d).Spells 0 text y
        → MatchResult result (λ x. view x ≡ y) (λ e. cause e ≡ OutOfMemory)
    text_found (Ok x) h y sp = sym ((said (Ok (view x)) h).only y (d, sp))
    text_found (Err e) h y sp = missed y sp (cause e) h

  module _ (f : Rule Y) (exact : IsExact (λ _. f) 0 follow reader) where
    plainly : (r : Result Y Fault) → read_whole reader text ≡ r → SaysPlain f text r
    plainly r e = subst (SaysPlain f text) e (plain_said f follow text reader exact)

    -- What is answered is what the text spells, by a rule without groups.
    pub plain_ok : (result : Result X E) → Gives cause view result (read_whole reader text) → IfOk result (λ x. IsPlainText f text (view x))
    plain_ok (Ok x) h = plainly (Ok (view x)) h
    plain_ok (Err e) h = tt

    plain_cause : (c : Cause Fault) → Tells c (read_whole reader text) → IsPlainCause f text c
    plain_cause (Met (Wrong n)) h = plainly (Err (Wrong n)) h
    plain_cause (Met (Deep n)) h = plainly (Err (Deep n)) h
    plain_cause OutOfMemory h = tt
    plain_cause Unread h = h

    -- The error says why the text was refused.
    pub plain_err : (result : Result X E) → Gives cause view result (read_whole reader text) → IfErr result (λ e. IsPlainCause f text (cause e))
    plain_err (Ok x) h = tt
    plain_err (Err e) h = plain_cause (cause e) h

    plain_missed : (y : Y) → f.Spells 0 text y → (c : Cause Fault) → Tells c (read_whole reader text) → c ≡ OutOfMemory
    plain_missed y sp (Met (Wrong n)) h = absurd ((plainly (Err (Wrong n)) h).none y sp)
    plain_missed y sp (Met (Deep n)) h = absurd (plainly (Err (Deep n)) h)
    plain_missed y sp OutOfMemory h = λ i. OutOfMemory
    plain_missed y sp Unread h = absurd h

    -- What the text spells is answered, unless memory ran out.
    pub plain_found : (result : Result X E) → Gives cause view result (read_whole reader text) → (y : Y) → f.Spells 0 text y
        → MatchResult result (λ x. view x ≡ y) (λ e. cause e ≡ OutOfMemory)
    plain_found (Ok x) h y sp = sym ((plainly (Ok (view x)) h).only y sp)
    plain_found (Err e) h y sp = plain_missed y sp (cause e) h
