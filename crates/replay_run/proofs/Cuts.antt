-- Where the first line of a text ends.
use Rattle.std.proofs.Common.{◌≡◌, ℕ, zero, suc, ◌+◌, ◌-◌, ◌<◌, Bool, true, false, not, nat_eq, List, [], ◌∷◌, ◌++◌, length, take, drop, sym, ap, ◌∙◌, refl, arith, length-drop}
use Rattle.std.specs.Prelude.{slice_index}
use Rattle.std.proofs.lemmas.Bool.{and_from, eqb-true}
use Rattle.std.proofs.lemmas.List.{take-append-drop, take_all}
use Rattle.std.proofs.Math.Seq.{drop-cons}
use Rattle.memchr.specs.Find.{is_byte, Passes}
use Rattle.replay_run.specs.Progress.{is_open}

not_from : (b : Bool) → (b ≡ true → ⊥) → not b ≡ true
not_from true h = absurd (h refl)
not_from false h = refl

-- no end stands before place k
pub open_before : (text : List ℕ) (k : ℕ) → ((j : ℕ) → j < k → Passes (is_byte 10) text j → ⊥) → is_open (take k text) ≡ true
open_before text zero none = refl
open_before [] (suc k) none = refl
open_before (c ∷ text) (suc k) none =
    and_from (not (nat_eq c 10)) (is_open (take k text)) (not_from (nat_eq c 10) (none zero (omega arith))) (open_before text k (λ j below. none (suc j) (omega arith)))

-- the end of the first line, and what stands behind it
pub cut_there : (text : List ℕ) (k : ℕ) → k < length text → Passes (is_byte 10) text k → text ≡ take k text ++ 10 ∷ take (length text - (k + 1)) (drop (k + 1) text)
cut_there text k within is =
    sym (take-append-drop k text)
    ∙ ap (λ xs. take k text ++ xs)
    (drop-cons text k 0 within
    ∙ ap (λ c. c ∷ drop (suc k) text) (eqb-true (slice_index text k) 10 is)
    ∙ ap (λ xs. 10 ∷ xs) (ap (λ n. drop n text) (let e : suc k ≡ k + 1 = omega arith in e)
    ∙ sym (take_all (length text - (k + 1)) (drop (k + 1) text) (omega (arith, length-drop (k + 1) text)))))
