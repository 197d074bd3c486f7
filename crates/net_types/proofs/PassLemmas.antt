-- What passes a test in a list, and how many do.
use Rattle.std.proofs.Common.{◌≡◌, ℕ, zero, suc, ◌+◌, ◌≤◌, ◌<◌, Bool, true, false, cond, ◌&&◌, ◌||◌, nat_eq, nat_le, List, [], ◌∷◌, ◌++◌, map, filter, sym, ap, ◌∙◌, refl, arith, inl, inr, sum_by}
use Rattle.std.specs.Prelude.{Option, Some, None, is_some, find, ◌⊎◌}
use Rattle.std.specs.List.{list_any}
use Rattle.std.specs.List.Sorted.{IsPermutation}
use Rattle.std.proofs.lemmas.Bool.{or_parts, le-leb, cases_eq, eqb-true}
use Rattle.std.proofs.lemmas.List.Sorted.{sum_by-IsPermutation}
use Rattle.std.proofs.lemmas.List.Sums.{sum_by-cons}
use Rattle.std.proofs.lemmas.Map.Views.{any-filter_same}
use Rattle.net_types.specs.Routes.{numbers}
use Rattle.net_types.specs.Sets.{Member}
use Rattle.net_types.specs.Signatures.{counts}
use Rattle.net_types.specs.declared.address.Pid.{Pid}
use Rattle.std.proofs.Math.Bool.{and_comm, or-false, or_assoc}

-- ---- one member more

pub any_more : {A : Type 0} (f : A → Bool) (xs : List A) (x : A) → list_any f (xs ++ x ∷ []) ≡ (list_any f xs || f x)
any_more f [] x = or-false (f x)
any_more f (y ∷ xs) x = ap (λ b. f y || b) (any_more f xs x) ∙ sym (or_assoc (f y) (list_any f xs) (f x))

not_there : {A : Type 0} (y : A) → None ≡ Some y → ⊥
not_there y e = cc

-- the first one that passes, where one more stands behind
pub find_more : {A : Type 0} (f : A → Bool) (xs : List A) (x y : A) → find f xs ≡ Some y → find f (xs ++ x ∷ []) ≡ Some y
find_more f [] x y e = absurd (not_there y e)
find_more f (z ∷ xs) x y e =
    elim (f z) as (λ b. cond b (Some z) (find f xs) ≡ Some y → cond b (Some z) (find f (xs ++ x ∷ [])) ≡ Some y) [
      | true ↦ λ h. h
      | false ↦ λ h. find_more f xs x y h
    ] e

pub find_last : {A : Type 0} (f : A → Bool) (xs : List A) (x : A) → list_any f xs ≡ false → find f (xs ++ x ∷ []) ≡ cond (f x) (Some x) None
find_last f [] x none = refl
find_last f (y ∷ xs) x none =
    let parts = or_parts (f y) (list_any f xs) none in
    ap (λ b. cond b (Some y) (find f (xs ++ x ∷ []))) parts.0 ∙ find_last f xs x parts.1

pub find_absent : {A : Type 0} (f : A → Bool) (xs : List A) → list_any f xs ≡ false → find f xs ≡ None
find_absent f [] none = refl
find_absent f (y ∷ xs) none =
    let parts = or_parts (f y) (list_any f xs) none in
    ap (λ b. cond b (Some y) (find f xs)) parts.0 ∙ find_absent f xs parts.1

-- the last one is skipped where it doesn't pass
pub find_skips : {A : Type 0} (f : A → Bool) (xs : List A) (x : A) → f x ≡ false → find f (xs ++ x ∷ []) ≡ find f xs
find_skips f [] x fails = ap (λ b. cond b (Some x) None) fails
find_skips f (y ∷ xs) x fails = ap (cond (f y) (Some y)) (find_skips f xs x fails)

pub is_some-any : {A : Type 0} (f : A → Bool) (xs : List A) → is_some (find f xs) ≡ list_any f xs
is_some-any f [] = refl
is_some-any f (x ∷ xs) = elim (f x) as (λ b. is_some (cond b (Some x) (find f xs)) ≡ (b || list_any f xs)) [ true ↦ refl | false ↦ is_some-any f xs ]

-- ---- maps and filters

pub any_map : {A B : Type 0} (test : B → Bool) (f : A → B) (xs : List A) → list_any test (map f xs) ≡ list_any (λ x. test (f x)) xs
any_map test f [] = refl
any_map test f (x ∷ xs) = ap (λ b. test (f x) || b) (any_map test f xs)

pub same_any : {A : Type 0} (f g : A → Bool) (xs : List A) → ((x : A) → f x ≡ g x) → list_any f xs ≡ list_any g xs
same_any f g [] h = refl
same_any f g (x ∷ xs) h = ap (λ b. b || list_any f xs) (h x) ∙ ap (λ b. g x || b) (same_any f g xs h)

pub filter-map : {A B : Type 0} (test : B → Bool) (f : A → B) (xs : List A) → filter test (map f xs) ≡ map f (filter (λ x. test (f x)) xs)
filter-map test f [] = refl
filter-map test f (x ∷ xs) = elim (test (f x)) as (λ b. cond b (f x ∷ filter test (map f xs)) (filter test (map f xs)) ≡ map f (cond b (x ∷ filter (λ y. test (f y)) xs) (filter (λ y. test (f y)) xs))) [
  | true ↦ ap (λ ys. f x ∷ ys) (filter-map test f xs)
  | false ↦ filter-map test f xs
]

pub filter_twice : {A : Type 0} (f g : A → Bool) (xs : List A) → filter f (filter g xs) ≡ filter (λ x. g x && f x) xs
filter_twice f g [] = refl
filter_twice f g (x ∷ xs) = elim (g x) as (λ b. filter f (cond b (x ∷ filter g xs) (filter g xs)) ≡ cond (b && f x) (x ∷ filter (λ x. g x && f x) xs) (filter (λ x. g x && f x) xs)) [
  | true ↦ ap (λ ys. cond (f x) (x ∷ ys) ys) (filter_twice f g xs)
  | false ↦ filter_twice f g xs
]

pub filter_nothing : {A : Type 0} (f : A → Bool) (xs : List A) → ((x : A) → f x ≡ false) → filter f xs ≡ []
filter_nothing f [] h = refl
filter_nothing f (x ∷ xs) h = ap (λ b. cond b (x ∷ filter f xs) (filter f xs)) (h x) ∙ filter_nothing f xs h

-- of those that are named twice, the ones count that count by both
pub counts_both : (old new : List Pid) (chosen who : Pid) → counts (filter (λ (p : Pid). list_any (λ (q : Pid). nat_eq q.0 p.0) new) old) chosen who ≡ (counts old chosen who && counts new chosen who)
counts_both old new chosen who =
    ap (λ b. nat_eq who.0 chosen.0 || b) (any-filter_same is_named stays (list_any is_named new) (λ p e. ap (λ n. list_any (λ (q : Pid). nat_eq q.0 n) new) (eqb-true p.0 who.0 e)) old)
    ∙ by (nat_eq who.0 chosen.0) (list_any is_named old) (list_any is_named new)
  where
    is_named : Pid → Bool
    is_named p = nat_eq p.0 who.0

    stays : Pid → Bool
    stays p = list_any (λ (q : Pid). nat_eq q.0 p.0) new

    by : (b o n : Bool) → (b || (n && o)) ≡ ((b || o) && (b || n))
    by true o n = refl
    by false o n = and_comm n o

-- ---- how many pass

abbrev pub one_if : Bool → ℕ
one_if b = cond b 1 0

abbrev pub count_of : {A : Type 0} → (A → Bool) → List A → ℕ
count_of test xs = sum_by (λ x. one_if (test x)) xs

any_count : {A : Type 0} (test : A → Bool) (xs : List A) → list_any test xs ≡ nat_le 1 (count_of test xs)
any_count test [] = refl
any_count test (x ∷ xs) = by (test x) (any_count test xs) ∙ ap (nat_le 1) (sym (sum_by-cons (λ y. one_if (test y)) x xs))
  where
    by : (b : Bool) → list_any test xs ≡ nat_le 1 (count_of test xs) → (b || list_any test xs) ≡ nat_le 1 (one_if b + count_of test xs)
    by true rest = sym (le-leb 1 (1 + count_of test xs) (omega arith))
    by false rest = rest ∙ ap (nat_le 1) (let e : count_of test xs ≡ 0 + count_of test xs = omega arith in e)

-- what one list has, the other has
pub any_permuted : {A : Type 0} (test : A → Bool) (xs ys : List A) → IsPermutation xs ys → list_any test ys ≡ list_any test xs
any_permuted test xs ys p = any_count test ys ∙ ap (nat_le 1) (sum_by-IsPermutation (λ x. one_if (test x)) xs ys p) ∙ sym (any_count test xs)

-- ---- members

pub some_there : {A : Type 0} (o : Option A) → is_some o ≡ true → (x : A) × (o ≡ Some x)
some_there None e = absurd (cc)
some_there (Some x) e = (x, refl)

-- each number in range stands among what is made of the numbers
pub place_member : {B : Type 0} (at : ℕ → B) (low count k : ℕ) → low ≤ k → k < low + count → Member (at k) (map at (numbers low count))
place_member at low zero k le lt = absurd (omega arith)
place_member at low (suc count) k le lt = by (cases_eq k low) (λ other. place_member at (low + 1) count k (omega arith) (omega arith))
  where
    by : (k ≡ low) ⊎ (k ≡ low → ⊥) → ((k ≡ low → ⊥) → Member (at k) (map at (numbers (low + 1) count))) → Member (at k) (map at (numbers low (suc count)))
    by (inl e) later = inl (ap at e)
    by (inr other) later = inr (later other)
