-- What is counted of replies, with one reply more.
use Rattle.std.proofs.Common.{◌≡◌, ℕ, suc, ◌+◌, Bool, true, false, cond, not, ◌||◌, nat_lt, List, [], ◌∷◌, ◌++◌, length, filter, refl, sym, ap, ◌∙◌, arith}
use Rattle.std.proofs.lemmas.List.Sums.{sum_by_push}
use Rattle.std.specs.List.{list_any}
use Rattle.std.proofs.lemmas.Bool.Decides.{nat_tests}
use Rattle.events.specs.declared.Reply.{Reply}
use Rattle.replay_run.specs.Load.{advert_count, accepted_count, counted_with, frame_count, one_if, refused_count, tally_of, up_to_last}
use Rattle.replay_run.specs.Progress.{is_refused}
use Rattle.replay_run.specs.declared.tally.Tally.{Tally}

from_none : (n : ℕ) → n ≡ 0 + n
from_none n = omega arith

module _ {X : Type 0} (test : X → Bool) where
  one_more : (x : X) (b : Bool) → length (cond b (x ∷ []) []) ≡ one_if b
  one_more x true = refl
  one_more x false = refl

  put_before : (x : X) (xs ys : List X) (n : ℕ) (b : Bool) → length xs ≡ length ys + n → length (cond b (x ∷ xs) xs) ≡ length (cond b (x ∷ ys) ys) + n
  put_before x xs ys n true e = omega (arith, e)
  put_before x xs ys n false e = e

  count_more : (xs : List X) (x : X) → length (filter test (xs ++ x ∷ [])) ≡ length (filter test xs) + one_if (test x)
  count_more [] x = one_more x (test x) ∙ from_none (one_if (test x))
  count_more (y ∷ xs) x = put_before y (filter test (xs ++ x ∷ [])) (filter test xs) (one_if (test x)) (test y) (count_more xs x)

-- a count that stood still stands still
last_more : (all some n : ℕ) → all ≡ some + n → up_to_last all ≡ up_to_last (up_to_last some + n)
last_more all some n e = omega (arith, e)

abbrev made : ℕ → ℕ → ℕ → ℕ → Tally
made a b c d = record { ok = a; refused = b; adverts = c; frames = d }

same_made : (a b c d e f g h : ℕ) → a ≡ e → b ≡ f → c ≡ g → d ≡ h → made a b c d ≡ made e f g h
same_made a b c d e f g h p q r s = ap (λ x. made x b c d) p ∙ ap (λ x. made e x c d) q ∙ ap (λ x. made e f x d) r ∙ ap (λ x. made e f g x) s

pub tally_more : (rs : List Reply) (r : Reply) → tally_of (rs ++ r ∷ []) ≡ counted_with (tally_of rs) r
tally_more rs r =
    let all : List Reply = rs ++ r ∷ [] in
    same_made (up_to_last (accepted_count all)) (up_to_last (refused_count all)) (up_to_last (advert_count all)) (up_to_last (frame_count all))
    (up_to_last (up_to_last (accepted_count rs) + one_if (not (is_refused r)))) (up_to_last (up_to_last (refused_count rs) + one_if (is_refused r)))
    (up_to_last (up_to_last (advert_count rs) + length r.adverts)) (up_to_last (up_to_last (frame_count rs) + length r.frames))
    (last_more (accepted_count all) (accepted_count rs) (one_if (not (is_refused r))) (count_more (λ x. not (is_refused x)) rs r))
    (last_more (refused_count all) (refused_count rs) (one_if (is_refused r)) (count_more is_refused rs r))
    (last_more (advert_count all) (advert_count rs) (length r.adverts) (sum_by_push (λ (x : Reply). length x.adverts) rs r))
    (last_more (frame_count all) (frame_count rs) (length r.frames) (sum_by_push (λ (x : Reply). length x.frames) rs r))

positive : (n : ℕ) → true ≡ nat_lt 0 (suc n)
positive n = grind (arith, nat_tests)

-- a list has an item that passes where some are kept
some_kept : {X : Type 0} (test : X → Bool) (xs : List X) → list_any test xs ≡ nat_lt 0 (length (filter test xs))
some_kept test [] = refl
some_kept test (x ∷ xs) = by (test x) (some_kept test xs)
  where
    by : (b : Bool) → list_any test xs ≡ nat_lt 0 (length (filter test xs)) → (b || list_any test xs) ≡ nat_lt 0 (length (cond b (x ∷ filter test xs) (filter test xs)))
    by true e = positive (length (filter test xs))
    by false e = e

some_counted : (n : ℕ) → nat_lt 0 n ≡ nat_lt 0 (up_to_last n)
some_counted n = grind (arith, nat_tests)

-- a refusal was counted exactly where there is one
pub refused_counted : (rs : List Reply) → nat_lt 0 (up_to_last (refused_count rs)) ≡ list_any is_refused rs
refused_counted rs = sym (some_kept is_refused rs ∙ some_counted (refused_count rs))
