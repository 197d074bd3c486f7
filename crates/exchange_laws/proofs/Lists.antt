-- Places in lists, the different members of a list, and maps that are given by a function.
use Rattle.std.proofs.Common.{◌≡◌, ℕ, zero, suc, ◌+◌, ◌≤◌, ◌<◌, Bool, true, false, cond, not, List, [], ◌∷◌, ◌++◌, map, sym, ap, subst, ◌∙◌, refl, arith, inl, inr}
use Rattle.std.specs.Prelude.{Option, Some, None, is_some, slice_get}
use Rattle.std.specs.Cmp.{IsTotalOrder}
use Rattle.std.specs.FinMap.{FinMap, get, keys, contains_key-keys}
use Rattle.std.specs.List.{list_any, position_from}
use Rattle.std.specs.Ordering.{eq_by_cmp}
use Rattle.std.specs.declared.cmp.Ordering.{Ordering}
use Rattle.std.proofs.lemmas.Bool.{false_from_ne_true, false≢true, not-true}
use Rattle.net_types.proofs.OrderedLemmas.{any_member, member_any}
use Rattle.net_types.proofs.FindLemmas.{slice_get-Member}
use Rattle.net_types.proofs.MapLemmas.{get-tabulate}
use Rattle.net_types.proofs.RisingLemmas.{filter-IsRising, filter-Member}
use Rattle.net_types.proofs.SetLemmas.{Member-append_left, Member-append_right}
use Rattle.net_types.specs.Keys.{pair_cmp}
use Rattle.net_types.specs.Maps.{each_once, tabulate}
use Rattle.net_types.specs.Routes.{numbers}
use Rattle.net_types.specs.Sets.{IsRising, Member}
use Rattle.net_types.specs.declared.rule.Rule.{Rule}
use Rattle.std.proofs.lemmas.Option.{same_Some}

-- the rules of pairs
abbrev pub TableOf : Type 0
TableOf = FinMap pair_cmp (List Rule)

-- ---- options and tests

pub is_some_of : {A : Type 0} (o : Option A) (x : A) → o ≡ Some x → is_some o ≡ true
is_some_of o x e = ap is_some e

-- what there is under a test says that the test passes
pub cond_there : {A : Type 0} (b : Bool) (o : Option A) → is_some (cond b o None) ≡ true → b ≡ true
cond_there true o e = refl
cond_there false o e = cc

pub clash : {b : Bool} → b ≡ true → b ≡ false → ⊥
clash t f = false≢true (sym f ∙ t)

-- ---- places

-- a member has a place
pub place_of : {A : Type 0} (xs : List A) (x : A) → Member x xs → (k : ℕ) × (slice_get xs k ≡ Some x)
place_of [] x m = elim m [ ]
place_of (y ∷ xs) x (inl e) = (0, ap Some (sym e))
place_of (y ∷ xs) x (inr m) = let later = place_of xs x m in (suc later.0, later.1)

-- in a rising list a member has one place
pub one_place : {A : Type 0} (below : A → A → Bool) → ((x : A) → below x x ≡ true → ⊥) → (xs : List A) → IsRising below xs → (j k : ℕ) (x : A) → slice_get xs j ≡ Some x → slice_get xs k ≡ Some x → j ≡ k
one_place below never [] rises j k x e f = absurd (cc)
one_place below never (y ∷ xs) rises zero zero x e f = refl
one_place below never (y ∷ xs) rises zero (suc k) x e f =
    absurd (never x (subst (λ z. below z x ≡ true) (same_Some y x e) (rises.0 x (slice_get-Member xs k x f))))
one_place below never (y ∷ xs) rises (suc j) zero x e f =
    absurd (never x (subst (λ z. below z x ≡ true) (same_Some y x f) (rises.0 x (slice_get-Member xs j x e))))
one_place below never (y ∷ xs) rises (suc j) (suc k) x e f = ap suc (one_place below never xs rises.1 j k x e f)

-- ---- the different members

module _ {A : Type 0} (same : A → A → Bool) (decides : (x y : A) → same x y ≡ true → x ≡ y) (itself : (x : A) → same x x ≡ true) where
  -- no member is the same as an earlier one
  pub once_apart : (xs : List A) → IsRising (λ x y. not (same x y)) (each_once same xs)
  once_apart [] = tt
  once_apart (x ∷ xs) = (
    λ y m. (filter-Member (λ z. not (same x z)) (each_once same xs) y m).passes,
    filter-IsRising (λ y z. not (same y z)) (λ y. not (same x y)) (each_once same xs) (once_apart xs),
  )

  -- the first place of what stands at a place
  pub position_at : (xs : List A) → IsRising (λ x y. not (same x y)) xs → (n k : ℕ) (x : A) → slice_get xs k ≡ Some x → position_from (same x) n xs ≡ Some (n + k)
  position_at [] rises n k x e = absurd (cc)
  position_at (y ∷ xs) rises n zero x e =
      ap (λ b. cond b (Some n) (position_from (same x) (n + 1) xs)) (ap (same x) (same_Some y x e) ∙ itself x) ∙ ap Some (let sum : n ≡ n + 0 = omega arith in sum)
  position_at (y ∷ xs) rises n (suc k) x e =
      let other : same y x ≡ false = not-true (same y x) (rises.0 x (slice_get-Member xs k x e)) in
      let apart : same x y ≡ false = false_from_ne_true (same x y) (λ t. clash (ap (λ z. same z x) (sym (decides x y t)) ∙ itself x) other) in
      ap (λ b. cond b (Some n) (position_from (same x) (n + 1) xs)) apart
      ∙ position_at xs rises.1 (n + 1) k x e ∙ ap Some (let sum : n + 1 + k ≡ n + suc k = omega arith in sum)

-- ---- numbers in a row

-- what stands among numbers in a row is in their range
pub numbers_range : {B : Type 0} (at : ℕ → B) (number : B → ℕ) → ((n : ℕ) → number (at n) ≡ n) → (low count : ℕ) (x : B) → Member x (map at (numbers low count)) → (low ≤ number x) × (number x < low + count)
numbers_range at number back low zero x m = elim m [ ]
numbers_range at number back low (suc count) x (inl e) = let here : number x ≡ low = ap number e ∙ back low in (omega arith, omega arith)
numbers_range at number back low (suc count) x (inr m) = let later = numbers_range at number back (low + 1) count x m in (omega arith, omega arith)

-- ---- maps that are given by a function

pub listed_or_none : {X : Type 0} (b : Bool) (o : Option X) → (is_some o ≡ true → b ≡ true) → cond b o None ≡ o
listed_or_none true o h = refl
listed_or_none false None h = refl
listed_or_none false (Some x) h = absurd (false≢true (h refl))

module _ {K : Type 0} (R : K → K → Ordering) (o : IsTotalOrder R) (tie : (x y : K) → eq_by_cmp R x y ≡ true → x ≡ y) where
  -- where each key that has something is listed, the map has what the function gives
  pub get_tabulated : {X : Type 0} (f : K → Option X) (ks : List K) → ((q : K) → is_some (f q) ≡ true → Member q ks) → (q : K) → get (tabulate R ks f) q ≡ f q
  get_tabulated f ks listed q =
      get-tabulate R o f (λ x k e. ap f (sym (tie x k e))) ks q
      ∙ listed_or_none (list_any (eq_by_cmp R q) ks) (f q) (λ there. member_any R o tie q ks (listed q there))

  -- a key that has something is one of the map's
  pub key_Member : {X : Type 0} (m : FinMap R X) (q : K) → is_some (get m q) ≡ true → Member q (keys m)
  key_Member m q there = any_member R o tie q (keys m) (sym (contains_key-keys m q) ∙ there)

  -- a key at which two maps differ is one of either
  pub differing_key : {X : Type 0} (m n : FinMap R X) (q : K) → ¬ (get m q ≡ get n q) → Member q (keys m ++ keys n)
  differing_key m n q apart = by (get m q) (get n q) refl refl
    where
      by : (a b : Option _) → get m q ≡ a → get n q ≡ b → Member q (keys m ++ keys n)
      by None None e f = absurd (apart (e ∙ sym f))
      by None (Some x) e f = Member-append_right (keys m) (keys n) q (key_Member n q (is_some_of (get n q) x f))
      by (Some x) b e f = Member-append_left (keys m) (keys n) q (key_Member m q (is_some_of (get m q) x e))
