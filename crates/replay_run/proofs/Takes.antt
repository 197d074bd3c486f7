-- Fronts of lists.
use Rattle.std.proofs.Common.{◌≡◌, ℕ, zero, suc, ◌+◌, ◌-◌, ◌<◌, ◌≤◌, List, [], ◌∷◌, ◌++◌, length, take, sym, ap, ◌∙◌, refl, arith, inl, inr}
use Rattle.std.specs.Prelude.{min, ◌⊎◌}
use Rattle.std.proofs.lemmas.Bool.{cases_lt}
use Rattle.std.proofs.lemmas.List.{take-append-le}
use Rattle.std.proofs.Math.Seq.{take-append-add}
use Rattle.std.proofs.lemmas.Grind.{common_steps}

pub take_short : (n : ℕ) (xs : List ℕ) → length xs ≤ n → take n xs ≡ xs
take_short n xs h = grind (arith, common_steps)

pub take_same : (n : ℕ) (xs : List ℕ) → take n (take n xs) ≡ take n xs
take_same n xs = grind (arith, common_steps)

pub length_take : (n : ℕ) (xs : List ℕ) → n ≤ length xs → length (take n xs) ≡ n
length_take n xs h = grind (arith, common_steps)

take_more_by : (n : ℕ) (xs ys : List ℕ) → ((length xs < n) ⊎ (n ≤ length xs)) → take n (take n xs ++ ys) ≡ take n (xs ++ ys)
take_more_by n xs ys (inl h) = ap (λ l. take n (l ++ ys)) (take_short n xs (omega arith))
take_more_by n xs ys (inr h) =
    let full : n ≤ length (take n xs) = omega (arith, length_take n xs h) in
    take-append-le n (take n xs) ys full ∙ take_same n xs ∙ sym (take-append-le n xs ys h)

-- what is cut off before others are put behind it is cut off after that
pub take_more : (n : ℕ) (xs ys : List ℕ) → take n (take n xs ++ ys) ≡ take n (xs ++ ys)
take_more n xs ys = take_more_by n xs ys (cases_lt (length xs) n)

no_take : (k : ℕ) → let none : List ℕ = [] in none ≡ take k none
no_take zero = refl
no_take (suc k) = refl

pub take_within : (m n : ℕ) (xs : List ℕ) → take m (take n xs) ≡ take (min n m) xs
take_within zero n xs = let e : zero ≡ min n zero = omega arith in ap (λ j. take j xs) e
take_within (suc m) zero xs = let e : zero ≡ min zero (suc m) = omega arith in ap (λ j. take j xs) e
take_within (suc m) (suc n) [] = no_take (min (suc n) (suc m))
take_within (suc m) (suc n) (x ∷ xs) =
    let e : suc (min n m) ≡ min (suc n) (suc m) = omega arith in
    ap (λ ys. x ∷ ys) (take_within m n xs) ∙ ap (λ j. take j (x ∷ xs)) e

-- the front of two lists of which the first is short
pub take_behind : (n : ℕ) (b xs : List ℕ) → length b ≤ n → take n (b ++ xs) ≡ b ++ take (n - length b) xs
take_behind n b xs few = let e : n ≡ length b + (n - length b) = omega arith in ap (λ m. take m (b ++ xs)) e ∙ take-append-add b xs (n - length b)

take_min : (n : ℕ) (xs : List ℕ) → take (min n (length xs)) xs ≡ take n xs
take_min n xs =
    let short : length (take n xs) ≤ length xs = grind (arith, common_steps) in
    sym (take_within (length xs) n xs) ∙ take_short (length xs) (take n xs) short

-- as much of the second as has room behind the first
pub take_room : (n k : ℕ) (b xs : List ℕ) → length b ≤ n → k ≡ min (n - length b) (length xs) → b ++ take k xs ≡ take n (b ++ xs)
take_room n k b xs few e = ap (λ ys. b ++ ys) (ap (λ j. take j xs) e ∙ take_min (n - length b) xs) ∙ sym (take_behind n b xs few)
