-- Lists that rise in a total order: the keys of a map, what a filter leaves of them, and a sorted list without repeats.
use Rattle.std.proofs.Common.{◌≡◌, ℕ, suc, ◌+◌, ◌≤◌, Bool, true, false, cond, not, List, [], ◌∷◌, map, filter, sum_by, ap, ◌∙◌, refl, sym, inl, inr, subst, arith}
use Rattle.std.specs.Prelude.{slice_index_or, ◌⊎◌}
use Rattle.std.specs.Cmp.{IsTotalOrder}
use Rattle.std.specs.FinMap.{FinMap, keys, entries, entries_sorted, is_sorted}
use Rattle.std.specs.FinMap.Entries.{below_all}
use Rattle.std.specs.List.Sorted.{IsSortedBy}
use Rattle.std.specs.Ordering.{eq_by_cmp, is_eq, is_lt, ordering_reverse}
use Rattle.std.specs.declared.cmp.Ordering.{Ordering}
use Rattle.std.specs.declared.cmp.Ordering.TheVariants.{Less, Equal, Greater}
use Rattle.std.proofs.lemmas.Bool.{and_parts, cases_Bool, false≢true, not-true}
use Rattle.std.proofs.lemmas.Cmp.{tied_itself}
use Rattle.std.proofs.lemmas.List.Sums.{sum_by-cons}
use Rattle.net_types.specs.Maps.{each_once}
use Rattle.net_types.specs.Sets.{Member, HasNoRepeats, IsRising}
use Rattle.net_types.proofs.TieLemmas.{less}
use Rattle.net_types.proofs.TestLemmas.{shown}

-- ---- filters

pub record IsKeptBy {A : Type 0} (test : A → Bool) (xs : List A) (x : A) : Type 0 where
  pub stands : Member x xs
  pub passes : test x ≡ true

kept_case : {A : Type 0} (test : A → Bool) (y : A) (xs : List A) (x : A) (b : Bool) → test y ≡ b → Member x (cond b (y ∷ filter test xs) (filter test xs)) → (Member x (filter test xs) → IsKeptBy test xs x) → IsKeptBy test (y ∷ xs) x
kept_case test y xs x true t (inl e) later = record { stands = inl e; passes = ap test e ∙ t }
kept_case test y xs x true t (inr m) later = let k = later m in record { stands = inr k.stands; passes = k.passes }
kept_case test y xs x false t m later = let k = later m in record { stands = inr k.stands; passes = k.passes }

-- what a filter leaves passes the test
pub filter-Member : {A : Type 0} (test : A → Bool) (xs : List A) (x : A) → Member x (filter test xs) → IsKeptBy test xs x
filter-Member test [] x m = elim m [ ]
filter-Member test (y ∷ xs) x m = kept_case test y xs x (test y) refl m (filter-Member test xs x)

left_case : {A : Type 0} (y : A) (ys : List A) (x : A) (b : Bool) → Member x ys → Member x (cond b (y ∷ ys) ys)
left_case y ys x true m = inr m
left_case y ys x false m = m

-- and what passes is left
pub Member-filter : {A : Type 0} (test : A → Bool) (xs : List A) (x : A) → Member x xs → test x ≡ true → Member x (filter test xs)
Member-filter test [] x m t = elim m [ ]
Member-filter test (y ∷ xs) x (inl e) t = subst (λ b. Member x (cond b (y ∷ filter test xs) (filter test xs))) (sym (ap test (sym e) ∙ t)) (inl e)
Member-filter test (y ∷ xs) x (inr m) t = left_case y (filter test xs) x (test y) (Member-filter test xs x m t)

-- what is left of a list's different members stands in it
pub once_of : {A : Type 0} (same : A → A → Bool) (xs : List A) (x : A) → Member x (each_once same xs) → Member x xs
once_of same [] x m = elim m [ ]
once_of same (y ∷ xs) x (inl e) = inl e
once_of same (y ∷ xs) x (inr m) = inr (once_of same xs x (filter-Member (λ z. not (same y z)) (each_once same xs) x m).stands)

-- and each member is left, where the test passes equal ones alone
pub Member-once : {A : Type 0} (same : A → A → Bool) → ((x y : A) → same x y ≡ true → x ≡ y) → (xs : List A) (x : A) → Member x xs → Member x (each_once same xs)
Member-once same decides [] x m = elim m [ ]
Member-once same decides (y ∷ xs) x (inl e) = inl e
Member-once same decides (y ∷ xs) x (inr m) = elim (cases_Bool (same y x)) [
  | inl equal ↦ inl (sym (decides y x equal))
  | inr other ↦ inr (Member-filter (λ z. not (same y z)) (each_once same xs) x (Member-once same decides xs x m) (ap not other))
]

rising_case : {A : Type 0} (below : A → A → Bool) (test : A → Bool) (x : A) (xs : List A) (b : Bool) → IsRising below (x ∷ xs) → IsRising below (filter test xs) → IsRising below (cond b (x ∷ filter test xs) (filter test xs))
rising_case below test x xs true r later = (λ y m. r.0 y (filter-Member test xs y m).stands, later)
rising_case below test x xs false r later = later

pub filter-IsRising : {A : Type 0} (below : A → A → Bool) (test : A → Bool) (xs : List A) → IsRising below xs → IsRising below (filter test xs)
filter-IsRising below test [] r = tt
filter-IsRising below test (x ∷ xs) r = rising_case below test x xs (test x) r (filter-IsRising below test xs r.1)

-- a list that rises has no repeats
pub rising_once : {A : Type 0} (below : A → A → Bool) → ((x : A) → below x x ≡ true → ⊥) → (xs : List A) → IsRising below xs → HasNoRepeats xs
rising_once below never [] rises = tt
rising_once below never (x ∷ xs) rises = (λ m. never x (rises.0 x m), rising_once below never xs rises.1)

-- ---- orders

abbrev pub before : {K : Type 0} → (K → K → Ordering) → K → K → Bool
before R x y = is_lt (R x y)

pub before_itself : {K : Type 0} (R : K → K → Ordering) → IsTotalOrder R → (x : K) → before R x x ≡ true → ⊥
before_itself R o x e = false≢true (sym (ap is_lt (tied_itself o x)) ∙ e)

pub before_trans : {K : Type 0} (R : K → K → Ordering) → IsTotalOrder R → (x y z : K) → before R x y ≡ true → before R y z ≡ true → before R x z ≡ true
before_trans R o x y z e f = ap is_lt (o.trans x y z (less (R x y) e) (less (R y z) f))

-- ---- the keys of a map

below_each : {K X : Type 0} (R : K → K → Ordering) (x : K) (es : List (K × X)) → below_all R x es ≡ true → (y : K) → Member y (map (λ (e : K × X). e.0) es) → before R x y ≡ true
below_each R x [] h y m = elim m [ ]
below_each R x (e ∷ es) h y (inl same) = ap (before R x) same ∙ (and_parts (is_lt (R x e.0)) (below_all R x es) h).0
below_each R x (e ∷ es) h y (inr m) = below_each R x es (and_parts (is_lt (R x e.0)) (below_all R x es) h).1 y m

entries_rise : {K X : Type 0} (R : K → K → Ordering) (es : List (K × X)) → is_sorted R es ≡ true → IsRising (before R) (map (λ (e : K × X). e.0) es)
entries_rise R [] h = tt
entries_rise R (e ∷ es) h =
    let parts = and_parts (below_all R e.0 es) (is_sorted R es) h in
    (below_each R e.0 es parts.0, entries_rise R es parts.1)

pub keys-IsRising : {K X : Type 0} (R : K → K → Ordering) (m : FinMap R X) → IsRising (before R) (keys m)
keys-IsRising R m = entries_rise R (entries m) (shown (is_sorted R (entries m)) (entries_sorted m))

-- ---- sorted lists

-- no key is before an earlier one
abbrev not_back : {K : Type 0} → (K → K → Ordering) → K → K → Bool
not_back R x y = not (is_lt (R y x))

turned : (r s : Ordering) → r ≡ ordering_reverse s → is_lt r ≡ false → (s ≡ Less) ⊎ (r ≡ Equal)
turned Less s e f = cc
turned Equal s e f = inr refl
turned Greater Less e f = inl refl
turned Greater Equal e f = cc
turned Greater Greater e f = cc

-- what isn't before one that isn't before a third isn't before the third
not_back_trans : {K : Type 0} (R : K → K → Ordering) → IsTotalOrder R → (x y z : K) → not_back R x y ≡ true → not_back R y z ≡ true → not_back R x z ≡ true
not_back_trans R o x y z e f = elim (is_lt (R z x)) as (λ b. is_lt (R z x) ≡ b → not b ≡ true) [
  | false ↦ λ t. refl
  | true ↦ λ t. elim (turned (R z y) (R y z) (o.antisymm z y) (not-true (is_lt (R z y)) f)) [
    | inl up ↦ absurd (false≢true (sym (not-true (is_lt (R y x)) e) ∙ ap is_lt (o.trans y z x up (less (R z x) t))))
    | inr level ↦ absurd (false≢true (sym (not-true (is_lt (R y x)) e) ∙ ap is_lt (sym (o.congr z y x level)) ∙ t))
  ]
] refl

module _ {A K : Type 0} (R : K → K → Ordering) (o : IsTotalOrder R) (key : A → K) where
  abbrev IsInOrder : List A → Type 0
  IsInOrder xs = IsSortedBy (λ x y. is_lt (R (key x) (key y))) xs

  rest_in_order : (x : A) (xs : List A) → IsInOrder (x ∷ xs) → IsInOrder xs
  rest_in_order x xs h = λ k d low less.
      let one : k + 1 ≡ suc k = omega arith in
      let two : k + 1 + 1 ≡ suc (k + 1) = omega arith in
      let here = h (k + 1) d (omega arith) (omega arith) in
      subst (λ j. is_lt (R (key (slice_index_or xs (k + 1) d)) (key (slice_index_or (x ∷ xs) j d))) ≡ false) one
      (subst (λ j. is_lt (R (key (slice_index_or (x ∷ xs) j d)) (key (slice_index_or (x ∷ xs) (k + 1) d))) ≡ false) two here)

  all_after : (x : A) (xs : List A) → IsInOrder (x ∷ xs) → (y : K) → Member y (map key xs) → not_back R (key x) y ≡ true
  all_after x [] h y m = elim m [ ]
  all_after x (z ∷ xs) h y m =
      let first : is_lt (R (key z) (key x)) ≡ false = h 0 x (omega arith) (omega arith) in
      elim m [
        | inl e ↦ ap (not_back R (key x)) e ∙ ap not first
        | inr later ↦ not_back_trans R o (key x) (key z) y (ap not first) (all_after z xs (rest_in_order x (z ∷ xs) h) y later)
      ]

  -- how many have a key that ties with this one
  abbrev pub count : K → List A → ℕ
  count q xs = sum_by (λ x. cond (eq_by_cmp R q (key x)) 1 0) xs

  counted : (q : K) (xs : List A) (y : K) → Member y (map key xs) → eq_by_cmp R q y ≡ true → 1 ≤ count q xs
  counted q [] y m e = elim m [ ]
  counted q (x ∷ xs) y (inl same) e =
      let f : A → ℕ = λ x. cond (eq_by_cmp R q (key x)) 1 0 in
      let here : f x ≡ 1 = ap (λ b. let one : ℕ = cond b 1 0 in one) (ap (eq_by_cmp R q) (sym same) ∙ e) in
      rw (sum_by-cons f x xs, here) (omega arith)
  counted q (x ∷ xs) y (inr m) e =
      let f : A → ℕ = λ x. cond (eq_by_cmp R q (key x)) 1 0 in
      let later : 1 ≤ count q xs = counted q xs y m e in
      rw (sum_by-cons f x xs) (omega arith)

  strictly : (x : A) (xs : List A) (y : K) → Member y (map key xs) → not_back R (key x) y ≡ true → count (key x) (x ∷ xs) ≤ 1 → before R (key x) y ≡ true
  strictly x xs y m e once =
      let f : A → ℕ = λ z. cond (eq_by_cmp R (key x) (key z)) 1 0 in
      elim (turned (R y (key x)) (R (key x) y) (o.antisymm y (key x)) (not-true (is_lt (R y (key x))) e)) [
        | inl up ↦ ap is_lt up
        | inr level ↦
            let here : f x ≡ 1 = ap (λ r. let one : ℕ = cond (is_eq r) 1 0 in one) (tied_itself o (key x)) in
            let tie : eq_by_cmp R (key x) y ≡ true = ap is_eq (o.antisymm (key x) y ∙ ap ordering_reverse level) in
            let later : 1 ≤ count (key x) xs = counted (key x) xs y m tie in
            let all : f x + count (key x) xs ≤ 1 = rw (sum_by-cons f x xs) at once in
            absurd (omega arith)
      ]

  -- a sorted list rises where no key comes twice
  pub sorted-IsRising : (xs : List A) → IsInOrder xs → ((q : K) → count q xs ≤ 1) → IsRising (before R) (map key xs)
  sorted-IsRising [] h once = tt
  sorted-IsRising (x ∷ xs) h once = (
    λ y m. strictly x xs y m (all_after x xs h y m) (once (key x)),
    sorted-IsRising xs (rest_in_order x xs h) (λ q.
        let f : A → ℕ = λ z. cond (eq_by_cmp R q (key z)) 1 0 in
        let all : f x + count q xs ≤ 1 = rw (sum_by-cons f x xs) at (once q) in
        omega arith),
  )
