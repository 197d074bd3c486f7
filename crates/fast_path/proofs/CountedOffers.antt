-- Offers are compared one after another with those that count.
use Rattle.std.proofs.Common.{◌≡◌, ℕ, zero, suc, ◌+◌, ◌<◌, Bool, true, false, cond, ◌&&◌, List, [], ◌∷◌, drop, filter, get_or, length, ap, ◌∙◌, arith, drop-cons}
use Rattle.std.specs.Prelude.{slice_get}
use Rattle.std.specs.Cmp.Lexicographic.{pointwise}
use Rattle.std.specs.Option.{option_map_or}
use Rattle.std.proofs.lemmas.Bool.{false≢true}

module _ {A : Type 0} (same : A → A → Bool) where
  -- an item is compared with the one at its place
  placed : (x : A) (xs ys : List A) (at : ℕ) (b : Bool) → option_map_or (same x) (slice_get ys at) false ≡ b → pointwise same (x ∷ xs) (drop at ys) ≡ (b && pointwise same xs (drop (at + 1) ys))
  placed x xs [] zero b e = ap (λ c. c && pointwise same xs []) e
  placed x xs [] (suc at) b e = ap (λ c. c && pointwise same xs (drop (suc at + 1) [])) e
  placed x xs (y ∷ ys) zero b e = ap (λ c. c && pointwise same xs ys) e
  placed x xs (y ∷ ys) (suc at) b e = let more : suc at + 1 ≡ suc (at + 1) = omega arith in placed x xs ys at b e ∙ ap (λ n. b && pointwise same xs (drop n (y ∷ ys))) (let less : suc (at + 1) ≡ suc at + 1 = omega arith in less)

  -- one that passes is compared, and one that doesn't is left out
  pub one_passes : (test : A → Bool) (x : A) (xs ys : List A) (at : ℕ) (b : Bool) → test x ≡ true → option_map_or (same x) (slice_get ys at) false ≡ b
      → pointwise same (filter test (x ∷ xs)) (drop at ys) ≡ (b && pointwise same (filter test xs) (drop (at + 1) ys))
  one_passes test x xs ys at b passes e = ap (λ c. pointwise same (cond c (x ∷ filter test xs) (filter test xs)) (drop at ys)) passes ∙ placed x (filter test xs) ys at b e

  pub one_left : (test : A → Bool) (x : A) (xs ys : List A) → test x ≡ false → pointwise same (filter test (x ∷ xs)) ys ≡ pointwise same (filter test xs) ys
  one_left test x xs ys fails = ap (λ c. pointwise same (cond c (x ∷ filter test xs) (filter test xs)) ys) fails

  -- so it is for the item at a place
  next_item : (xs : List A) (i : ℕ) (d : A) → i < length xs → drop i xs ≡ get_or xs i d ∷ drop (i + 1) xs
  next_item xs i d less = drop-cons xs i d less ∙ ap (λ n. get_or xs i d ∷ drop n xs) (let more : suc i ≡ i + 1 = omega arith in more)

  pub next_passes : (test : A → Bool) (xs ys : List A) (i at : ℕ) (d : A) (b : Bool) → i < length xs → test (get_or xs i d) ≡ true → option_map_or (same (get_or xs i d)) (slice_get ys at) false ≡ b
      → pointwise same (filter test (drop i xs)) (drop at ys) ≡ (b && pointwise same (filter test (drop (i + 1) xs)) (drop (at + 1) ys))
  next_passes test xs ys i at d b less passes e =
      ap (λ zs. pointwise same (filter test zs) (drop at ys)) (next_item xs i d less) ∙ one_passes test (get_or xs i d) (drop (i + 1) xs) ys at b passes e

  pub next_left : (test : A → Bool) (xs ys : List A) (i : ℕ) (d : A) → i < length xs → test (get_or xs i d) ≡ false → pointwise same (filter test (drop i xs)) ys ≡ pointwise same (filter test (drop (i + 1) xs)) ys
  next_left test xs ys i d less fails = ap (λ zs. pointwise same (filter test zs) ys) (next_item xs i d less) ∙ one_left test (get_or xs i d) (drop (i + 1) xs) ys fails

  -- an item that is the same stands there
  pub stands_within : (x : A) (ys : List A) (at : ℕ) → option_map_or (same x) (slice_get ys at) false ≡ true → at < length ys
  stands_within x [] zero e = absurd (false≢true e)
  stands_within x [] (suc at) e = absurd (false≢true e)
  stands_within x (y ∷ ys) zero e = omega arith
  stands_within x (y ∷ ys) (suc at) e = let less : at < length ys = stands_within x ys at e in omega (arith, less)
