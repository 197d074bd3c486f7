-- Maps after several values are put in or taken out, members with their places, and lists that rise.
use Rattle.std.proofs.Common.{◌≡◌, ℕ, zero, suc, ◌<◌, ◌⊎◌, Bool, true, false, cond, ◌||◌, List, [], ◌∷◌, filter, map, take, sym, ap, subst, ◌∙◌, refl, arith, inl, inr}
use Rattle.std.specs.Prelude.{Option, Some, None, slice_get}
use Rattle.std.specs.Cmp.{IsTotalOrder}
use Rattle.std.specs.FinMap.{FinMap, get, get-insert, get-remove, insert, remove}
use Rattle.std.specs.List.{list_any}
use Rattle.std.specs.Ordering.{eq_by_cmp}
use Rattle.std.specs.declared.cmp.Ordering.{Ordering}
use Rattle.std.proofs.lemmas.Bool.{false_from_ne_true}
use Rattle.net_types.proofs.OrderedLemmas.{any_member, member_any}
use Rattle.exchange_laws.proofs.Lists.{clash}
use Rattle.net_types.proofs.FindLemmas.{Member-take}
use Rattle.net_types.proofs.SetLemmas.{Member-map}
use Rattle.net_types.proofs.TieLemmas.{ties_itself}
use Rattle.net_types.specs.Sets.{IsRising, Member}

-- ---- lists

-- the front of a list has what the list has there
pub get_front : {A : Type 0} (n : ℕ) (xs : List A) (k : ℕ) → k < n → slice_get (take n xs) k ≡ slice_get xs k
get_front zero xs k below = absurd (omega arith)
get_front (suc n) [] k below = refl
get_front (suc n) (x ∷ xs) zero below = refl
get_front (suc n) (x ∷ xs) (suc k) below = get_front n xs k (omega arith)

-- what stands in the front of a list stands there in the list
pub get_taken : {A : Type 0} (n : ℕ) (xs : List A) (k : ℕ) (x : A) → slice_get (take n xs) k ≡ Some x → (k < n) × (slice_get xs k ≡ Some x)
get_taken zero xs k x e = absurd (cc)
get_taken (suc n) [] k x e = absurd (cc)
get_taken (suc n) (y ∷ xs) zero x e = (omega arith, e)
get_taken (suc n) (y ∷ xs) (suc k) x e = let later = get_taken n xs k x e in let below : k < n = later.0 in (omega arith, later.1)

-- the front of a rising list rises
pub take-IsRising : {A : Type 0} (below : A → A → Bool) (n : ℕ) (xs : List A) → IsRising below xs → IsRising below (take n xs)
take-IsRising below zero xs rises = tt
take-IsRising below (suc n) [] rises = tt
take-IsRising below (suc n) (x ∷ xs) rises = (λ y m. rises.0 y (Member-take n xs y m), take-IsRising below n xs rises.1)

-- where two tests say the same of each member, they let the same members through
pub filter_alike : {A : Type 0} (f g : A → Bool) (xs : List A) → ((x : A) → Member x xs → f x ≡ g x) → filter f xs ≡ filter g xs
filter_alike f g [] same = refl
filter_alike f g (x ∷ xs) same =
    ap (λ b. cond b (x ∷ filter f xs) (filter f xs)) (same x (inl refl)) ∙ ap (λ ys. cond (g x) (x ∷ ys) ys) (filter_alike f g xs (λ y m. same y (inr m)))

-- ---- maps

-- the keys of entries differ
abbrev pub AreApart : {K X : Type 0} → List (K × X) → Type 0
AreApart [] = Unit {0}
AreApart {K} {X} (e ∷ es) = ((d : K × X) → Member d es → d.0 ≡ e.0 → ⊥) × AreApart es

-- so it is where they rise, and none comes before itself
pub apart_from_rising : {K X : Type 0} (below : K → K → Bool) → ((k : K) → below k k ≡ true → ⊥) → (es : List (K × X)) → IsRising below (map (λ (e : K × X). e.0) es) → AreApart es
apart_from_rising below never [] rises = tt
apart_from_rising {K} {X} below never (e ∷ es) rises = (
  λ d m same. never e.0 (subst (λ k. below e.0 k ≡ true) same (rises.0 d.0 (Member-map (λ (x : K × X). x.0) es d m))),
  apart_from_rising below never es rises.1,
)

module _ {K : Type 0} (R : K → K → Ordering) (o : IsTotalOrder R) (tie : (x y : K) → eq_by_cmp R x y ≡ true → x ≡ y) where
  -- a key is one of these, or none of them
  pub stands_or_not : (ks : List K) (q : K) → Member q ks ⊎ (Member q ks → ⊥)
  stands_or_not ks q = by (list_any (eq_by_cmp R q) ks) refl
    where
      by : (b : Bool) → list_any (eq_by_cmp R q) ks ≡ b → Member q ks ⊎ (Member q ks → ⊥)
      by true is = inl (any_member R o tie q ks is)
      by false is = inr (λ m. clash (member_any R o tie q ks m) is)

module _ {K X : Type 0} (R : K → K → Ordering) (o : IsTotalOrder R) (tie : (x y : K) → eq_by_cmp R x y ≡ true → x ≡ y) where
  -- the map with all of these put in
  abbrev pub with_all : FinMap R X → List (K × X) → FinMap R X
  with_all m [] = m
  with_all m (e ∷ es) = with_all (insert m e.0 e.1) es

  -- a value for the key is among these
  pub record IsPut (es : List (K × X)) (q : K) : Type 0 where
    pub entry : K × X
    pub stands : Member entry es
    pub at : entry.0 ≡ q

  put_later : (e : K × X) (es : List (K × X)) (q : K) → eq_by_cmp R q e.0 ≡ false → (d : K × X) → d.0 ≡ q → (d ≡ e) ⊎ Member d es → IsPut es q
  put_later e es q is d at (inl same) = absurd (clash (ap (λ k. eq_by_cmp R k e.0) (sym at ∙ ap (λ (x : K × X). x.0) same) ∙ ties_itself o e.0) is)
  put_later e es q is d at (inr m) = record { entry = d; stands = m; at = at }

  -- where all that is put in is what a function gives, the map has what the function gives
  pub get_with_all : (f : K → Option X) (es : List (K × X)) (m : FinMap R X) (q : K) → ((e : K × X) → Member e es → f e.0 ≡ Some e.1) → (get m q ≡ f q) ⊎ IsPut es q → get (with_all m es) q ≡ f q
  get_with_all f [] m q all (inl is) = is
  get_with_all f [] m q all (inr put) = absurd put.stands
  get_with_all f (e ∷ es) m q all there = get_with_all f es (insert m e.0 e.1) q (λ d k. all d (inr k)) (by (eq_by_cmp R q e.0) refl there)
    where
      by : (b : Bool) → eq_by_cmp R q e.0 ≡ b → (get m q ≡ f q) ⊎ IsPut (e ∷ es) q → (get (insert m e.0 e.1) q ≡ f q) ⊎ IsPut es q
      by true is there = inl (get-insert o m e.0 e.1 q ∙ ap (λ b. cond b (Some e.1) (get m q)) is ∙ sym (all e (inl refl)) ∙ ap f (sym (tie q e.0 is)))
      by false is (inl at) = inl (get-insert o m e.0 e.1 q ∙ ap (λ b. cond b (Some e.1) (get m q)) is ∙ at)
      by false is (inr put) = inr (put_later e es q is put.entry put.at put.stands)

  -- a key that none of these has is as it was
  pub get_with_others : (es : List (K × X)) (m : FinMap R X) (q : K) → ((e : K × X) → Member e es → e.0 ≡ q → ⊥) → get (with_all m es) q ≡ get m q
  get_with_others [] m q none = refl
  get_with_others (e ∷ es) m q none =
      get_with_others es (insert m e.0 e.1) q (λ d k. none d (inr k)) ∙ get-insert o m e.0 e.1 q
      ∙ ap (λ b. cond b (Some e.1) (get m q)) (false_from_ne_true (eq_by_cmp R q e.0) (λ ties. none e (inl refl) (sym (tie q e.0 ties))))

  -- where the keys differ, each has its value
  pub get_with_those : (es : List (K × X)) (m : FinMap R X) → AreApart es → (e : K × X) → Member e es → get (with_all m es) e.0 ≡ Some e.1
  get_with_those [] m apart e stands = elim stands [ ]
  get_with_those (d ∷ es) m apart e (inl is) =
      subst (λ (x : K × X). get (with_all (insert m d.0 d.1) es) x.0 ≡ Some x.1) (sym is)
      (get_with_others es (insert m d.0 d.1) d.0 apart.0 ∙ get-insert o m d.0 d.1 d.0 ∙ ap (λ b. cond b (Some d.1) (get m d.0)) (ties_itself o d.0))
  get_with_those (d ∷ es) m apart e (inr k) = get_with_those es (insert m d.0 d.1) apart.1 e k

  -- the map with all of these taken out
  abbrev pub without_all : FinMap R X → List K → FinMap R X
  without_all m [] = m
  without_all m (k ∷ ks) = without_all (remove m k) ks

  get_without_all : (ks : List K) (m : FinMap R X) (q : K) → get (without_all m ks) q ≡ cond (list_any (eq_by_cmp R q) ks) None (get m q)
  get_without_all [] m q = refl
  get_without_all (k ∷ ks) m q = get_without_all ks (remove m k) q ∙ ap (cond (list_any (eq_by_cmp R q) ks) None) (get-remove o m k q) ∙ by (eq_by_cmp R q k) (list_any (eq_by_cmp R q) ks)
    where
      by : (b c : Bool) → cond c None (cond b None (get m q)) ≡ cond (b || c) None (get m q)
      by true true = refl
      by true false = refl
      by false c = refl

  pub get_without_those : (ks : List K) (m : FinMap R X) (q : K) → Member q ks → get (without_all m ks) q ≡ None
  get_without_those ks m q stands = get_without_all ks m q ∙ ap (λ b. cond b None (get m q)) (member_any R o tie q ks stands)

  pub get_without_others : (ks : List K) (m : FinMap R X) (q : K) → (Member q ks → ⊥) → get (without_all m ks) q ≡ get m q
  get_without_others ks m q other =
      get_without_all ks m q ∙ ap (λ b. cond b None (get m q)) (false_from_ne_true (list_any (eq_by_cmp R q) ks) (λ any. other (any_member R o tie q ks any)))
