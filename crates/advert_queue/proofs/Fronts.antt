-- The front of a list.
use Rattle.std.proofs.Common.{◌≡◌, ℕ, zero, suc, ◌+◌, ◌≤◌, ◌<◌, List, [], ◌∷◌, ◌++◌, get_or, map, take, drop, length, sym, ap, subst, ◌∙◌, refl, arith, inl, inr}
use Rattle.std.proofs.lemmas.List.{length-map, length-take}
use Rattle.net_types.proofs.FindLemmas.{Member-take}
use Rattle.net_types.proofs.SetLemmas.{Member-map}
use Rattle.net_types.specs.Sets.{Member}

-- each of the first items that were lent is one of all
pub lent_member : {A B : Type 0} (f : A → B) (lent : List A) (count : ℕ) (all : List B) (i : ℕ) (x : A) → map f lent ≡ take count all → i < length lent → x ≡ get_or lent i x → Member (f x) all
lent_member f lent count all i x are lt at =
    Member-take count all (f x) (subst (Member (f x)) are (Member-map f lent x (got_member lent i x lt at)))
  where
    got_member : {A : Type 0} (xs : List A) (i : ℕ) (x : A) → i < length xs → x ≡ get_or xs i x → Member x xs
    got_member [] i x lt at = absurd (omega (arith, lt))
    got_member (y ∷ ys) zero x lt at = inl at
    got_member (y ∷ ys) (suc i) x lt at = inr (got_member ys i x (omega (arith, lt)) at)

-- they are no more than were asked for
pub lent_few : {A B : Type 0} (f : A → B) (lent : List A) (count : ℕ) (all : List B) → map f lent ≡ take count all → length lent ≤ count
lent_few f lent count all are =
    let same : length lent ≡ length (take count all) = sym (length-map lent f) ∙ ap length are in
    let most = length-take count all in
    omega (arith, same, most)

take_none : {A : Type 0} (n : ℕ) → take {A = A} n [] ≡ []
take_none zero = refl
take_none (suc n) = refl

drop_none : {A : Type 0} (n : ℕ) → drop {A = A} n [] ≡ []
drop_none zero = refl
drop_none (suc n) = refl

-- the front and the next one are a longer front
pub front_take : {A : Type 0} (n : ℕ) (xs : List A) → take n xs ++ take 1 (drop n xs) ≡ take (n + 1) xs
front_take zero xs = refl
front_take (suc n) [] = sym (take_none (suc n + 1))
front_take (suc n) (x ∷ xs) = let next : suc n + 1 ≡ suc (n + 1) = omega arith in ap (λ ys. x ∷ ys) (front_take n xs) ∙ sym (ap (λ k. take k (x ∷ xs)) next)

pub front_drop : {A : Type 0} (n : ℕ) (xs : List A) → drop 1 (drop n xs) ≡ drop (n + 1) xs
front_drop zero xs = refl
front_drop (suc n) [] = sym (drop_none (suc n + 1))
front_drop (suc n) (x ∷ xs) = let next : suc n + 1 ≡ suc (n + 1) = omega arith in front_drop n xs ∙ sym (ap (λ k. drop k (x ∷ xs)) next)
