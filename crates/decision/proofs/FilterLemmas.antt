-- Filters by the least number.
use Rattle.std.proofs.Common.{◌≡◌, ℕ, ◌<◌, ◌≤◌, Bool, true, false, cond, ◌&&◌, ◌||◌, not, eqb, leb, List, [], ◌∷◌, sym, ap, subst, ◌∙◌, refl, arith, inl, inr}
use Rattle.std.specs.List.{filter, list_any, list_all}
use Rattle.std.proofs.lemmas.Bool.{and_parts, and_from, and_left, and_right, eqb-true, leb-true, lt-leb, or_cases, or_left, or_right, not-true}
use Rattle.std.proofs.lemmas.Bool.Decides.{nat_tests}
use Rattle.decision.specs.Passes.{least_by}

same_cond : {X : Type 0} (b d : Bool) (x : X) (xs ys : List X) → b ≡ d → xs ≡ ys → cond b (x ∷ xs) xs ≡ cond d (x ∷ ys) ys
same_cond true true x xs ys e h = ap (λ l. x ∷ l) h
same_cond true false x xs ys e h = cc
same_cond false true x xs ys e h = cc
same_cond false false x xs ys e h = h

-- tests that agree where p holds keep the same of a list where p holds throughout
pub filter_same : {X : Type 0} (t u p : X → Bool) → ((x : X) → p x ≡ true → t x ≡ u x) → (xs : List X) → list_all p xs ≡ true → filter t xs ≡ filter u xs
filter_same t u p h [] all = refl
filter_same t u p h (x ∷ xs) all =
    let parts = and_parts (p x) (list_all p xs) all in
    same_cond (t x) (u x) x (filter t xs) (filter u xs) (h x parts.0) (filter_same t u p h xs parts.1)

pub all_same : {X : Type 0} (t u p : X → Bool) → ((x : X) → p x ≡ true → t x ≡ u x) → (xs : List X) → list_all p xs ≡ true → list_all t xs ≡ list_all u xs
all_same t u p h [] all = refl
all_same t u p h (x ∷ xs) all =
    let parts = and_parts (p x) (list_all p xs) all in
    ap (λ b. b && list_all t xs) (h x parts.0) ∙ ap (λ b. u x && b) (all_same t u p h xs parts.1)

pub all_weaker : {X : Type 0} (p q : X → Bool) → ((x : X) → p x ≡ true → q x ≡ true) → (xs : List X) → list_all p xs ≡ true → list_all q xs ≡ true
all_weaker p q h [] all = refl
all_weaker p q h (x ∷ xs) all =
    let parts = and_parts (p x) (list_all p xs) all in
    and_from (q x) (list_all q xs) (h x parts.0) (all_weaker p q h xs parts.1)

pub any_weaker : {X : Type 0} (p q : X → Bool) → ((x : X) → p x ≡ true → q x ≡ true) → (xs : List X) → list_any p xs ≡ true → list_any q xs ≡ true
any_weaker p q h [] any = any
any_weaker p q h (x ∷ xs) any = elim (or_cases (p x) (list_any p xs) any) [
  | inl e ↦ or_left (q x) _ (h x e)
  | inr e ↦ or_right (q x) _ (any_weaker p q h xs e)
]

any_step : {X : Type 0} (t : X → Bool) (b : Bool) (x : X) (xs : List X) (any : Bool) → list_any t xs ≡ any → list_any t (cond b (x ∷ xs) xs) ≡ ((b && t x) || any)
any_step t true x xs any h = ap (λ b. t x || b) h
any_step t false x xs any h = h

pub any-filter : {X : Type 0} (t u : X → Bool) (xs : List X) → list_any t (filter u xs) ≡ list_any (λ x. u x && t x) xs
any-filter t u [] = refl
any-filter t u (x ∷ xs) = any_step t (u x) x (filter u xs) (list_any (λ y. u y && t y) xs) (any-filter t u xs)

all_step : {X : Type 0} (t : X → Bool) (b : Bool) (x : X) (xs : List X) (all : Bool) → list_all t xs ≡ all → list_all t (cond b (x ∷ xs) xs) ≡ ((not b || t x) && all)
all_step t true x xs all h = ap (λ b. t x && b) h
all_step t false x xs all h = h

pub all-filter : {X : Type 0} (t u : X → Bool) (xs : List X) → list_all t (filter u xs) ≡ list_all (λ x. not (u x) || t x) xs
all-filter t u [] = refl
all-filter t u (x ∷ xs) = all_step t (u x) x (filter u xs) (list_all (λ y. not (u y) || t y) xs) (all-filter t u xs)

-- one that is lower than n stands in the list
not_least : {X : Type 0} (f : X → ℕ) (n m : ℕ) → m < n → (xs : List X) → list_any (λ y. eqb (f y) m) xs ≡ true → list_all (λ y. leb n (f y)) xs ≡ false
not_least f n m low [] any = cc
not_least f n m low (x ∷ xs) any = elim (or_cases (eqb (f x) m) (list_any (λ y. eqb (f y) m) xs) any) [
  | inl e ↦ let is = eqb-true (f x) m e in and_left (leb n (f x)) _ (lt-leb n (f x) (omega (arith, is, low)))
  | inr e ↦ and_right (leb n (f x)) _ (not_least f n m low xs e)
]

least_is : {X : Type 0} (f : X → ℕ) (m : ℕ) (xs : List X) → list_all (λ y. leb m (f y)) xs ≡ true → list_any (λ y. eqb (f y) m) xs ≡ true → (n : ℕ) → m ≤ n → (b : Bool) → eqb n m ≡ b → list_all (λ y. leb n (f y)) xs ≡ b
least_is f m xs all any n low true e = subst (λ k. list_all (λ y. leb k (f y)) xs ≡ true) (sym (eqb-true n m e)) all
least_is f m xs all any n low false e = not_least f n m (grind (arith, nat_tests)) xs any

-- what has the least number
pub least_by_is : {X : Type 0} (f : X → ℕ) (m : ℕ) (xs : List X) → list_all (λ y. leb m (f y)) xs ≡ true → list_any (λ y. eqb (f y) m) xs ≡ true → least_by f xs ≡ filter (λ y. eqb (f y) m) xs
least_by_is f m xs all any = filter_same (λ x. list_all (λ y. leb (f x) (f y)) xs) (λ y. eqb (f y) m) (λ y. leb m (f y))
    (λ x h. least_is f m xs all any (f x) (leb-true m (f x) h) (eqb (f x) m) refl) xs all

filter_false : {X : Type 0} (xs : List X) → filter (λ x. false) xs ≡ []
filter_false [] = refl
filter_false (x ∷ xs) = filter_false xs

pub filter_none : {X : Type 0} (t : X → Bool) (xs : List X) → list_all (λ x. not (t x)) xs ≡ true → filter t xs ≡ []
filter_none t xs all = filter_same t (λ x. false) (λ x. not (t x)) (λ x h. not-true (t x) h) xs all ∙ filter_false xs
