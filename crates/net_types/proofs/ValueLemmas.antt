-- The values of a map: tests of them, and their sums.
use Rattle.std.proofs.Common.{◌≡◌, ℕ, ◌+◌, ◌≤◌, Bool, true, false, cond, ◌||◌, T, List, [], ◌∷◌, map, sum_by, sym, ap, ◌∙◌, refl, arith}
use Rattle.std.specs.Prelude.{Option, Some}
use Rattle.std.specs.Cmp.{IsTotalOrder}
use Rattle.std.specs.FinMap.{FinMap, get, values, entries, empty, insert, from_entries, entries_sorted, get-entries, entries-insert, len-entries, len-empty}
use Rattle.std.specs.FinMap.Entries.{find, put, by_order, is_sorted, below_all}
use Rattle.std.specs.List.{list_any}
use Rattle.std.specs.Ordering.{eq_by_cmp, is_lt}
use Rattle.std.specs.declared.cmp.Ordering.{Ordering}
use Rattle.std.specs.declared.cmp.Ordering.TheVariants.{Less, Equal, Greater}
use Rattle.std.proofs.lemmas.Bool.{false_from_ne_true, or_right}
use Rattle.std.proofs.lemmas.List.{nil_from_length}
use Rattle.std.proofs.lemmas.List.Sums.{sum_by-cons}
use Rattle.net_types.proofs.TestLemmas.{both_hold}
use Rattle.net_types.proofs.TieLemmas.{tie_Equal, ties_itself}

not_less : (r : Ordering) → T (is_lt r) → r ≡ Equal → ⊥
not_less Less h e = cc
not_less Equal h e = h
not_less Greater h e = h

pub no_entries : (K X : Type 0) (R : K → K → Ordering) → entries (empty {K = K} {X = X} {R = R}) ≡ []
no_entries K X R = nil_from_length (entries (empty {K = K} {X = X} {R = R})) (sym (len-entries (empty {K = K} {X = X} {R = R})) ∙ len-empty R X)

-- a key whose value passes a test
pub record HasValue {K X : Type 0} (at : K → Option X) (test : X → Bool) : Type 0 where
  pub key : K
  pub value : X
  pub there : at key ≡ Some value
  pub passes : test value ≡ true

module _ {K X : Type 0} (R : K → K → Ordering) (o : IsTotalOrder R) where
  -- a key that is found among entries of greater keys doesn't tie with a lesser one
  pub later_apart : (x q : K) (v : X) (es : List (K × X)) → T (below_all R x es) → find R q es ≡ Some v → eq_by_cmp R q x ≡ false
  later_apart x q v [] below e = absurd (cc)
  later_apart x q v (f ∷ es) below e =
      elim (eq_by_cmp R q f.0) as (λ b. eq_by_cmp R q f.0 ≡ b → cond b (Some f.1) (find R q es) ≡ Some v → eq_by_cmp R q x ≡ false) [
        | true ↦ λ t is. false_from_ne_true (eq_by_cmp R q x) (λ s. not_less (R x f.0) (both_hold _ _ below).0 (sym (o.congr q x f.0 (tie_Equal (R q x) s)) ∙ tie_Equal (R q f.0) t))
        | false ↦ λ t is. later_apart x q v es (both_hold _ _ below).1 is
      ] refl e

  value_among : (test : X → Bool) (es : List (K × X)) → T (is_sorted R es) → list_any test (map (λ (e : K × X). e.1) es) ≡ true → HasValue (λ q. find R q es) test
  value_among test [] sorted any = absurd (cc)
  value_among test (e ∷ es) sorted any =
      elim (test e.1) as (λ b. test e.1 ≡ b → (b || list_any test (map (λ (e : K × X). e.1) es)) ≡ true → HasValue (λ q. find R q (e ∷ es)) test) [
        | true ↦ λ t a. record { key = e.0; value = e.1; there = ap (λ b. cond b (Some e.1) (find R e.0 es)) (ties_itself o e.0); passes = t }
        | false ↦ λ t a.
            let later = value_among test es (both_hold _ _ sorted).1 a in
            record { key = later.key; value = later.value; there = ap (λ b. cond b (Some e.1) (find R later.key es)) (later_apart e.0 later.key later.value es (both_hold _ _ sorted).0 later.there) ∙ later.there; passes = later.passes }
      ] refl any

  any_among : (test : X → Bool) (es : List (K × X)) (q : K) (v : X) → find R q es ≡ Some v → test v ≡ true → list_any test (map (λ (e : K × X). e.1) es) ≡ true
  any_among test [] q v e t = absurd (cc)
  any_among test (f ∷ es) q v e t =
      elim (eq_by_cmp R q f.0) as (λ b. cond b (Some f.1) (find R q es) ≡ Some v → (test f.1 || list_any test (map (λ (e : K × X). e.1) es)) ≡ true) [
        | true ↦ λ is. let same : v ≡ f.1 = cc in ap (λ b. b || list_any test (map (λ (e : K × X). e.1) es)) (sym (ap test same) ∙ t)
        | false ↦ λ is. or_right (test f.1) (list_any test (map (λ (e : K × X). e.1) es)) (any_among test es q v is t)
      ] e

  -- some value passes: so does one that a key has
  pub value_at : (test : X → Bool) (m : FinMap R X) → list_any test (values m) ≡ true → HasValue (get m) test
  value_at test m any =
      let h = value_among test (entries m) (entries_sorted m) any in
      record { key = h.key; value = h.value; there = get-entries m h.key ∙ h.there; passes = h.passes }

  pub any_value : (test : X → Bool) (m : FinMap R X) (q : K) (v : X) → get m q ≡ Some v → test v ≡ true → list_any test (values m) ≡ true
  any_value test m q v e t = any_among test (entries m) q v (sym (get-entries m q) ∙ e) t

  -- the sum over the values is at most that over the entries that a map is made of
  abbrev total : (X → ℕ) → List (K × X) → ℕ
  total f es = sum_by f (map (λ (e : K × X). e.1) es)

  sum-put : (f : X → ℕ) (k : K) (v : X) (es : List (K × X)) → total f (put R k v es) ≤ f v + total f es
  sum-put f k v [] = omega (arith, sum_by-cons f v [])
  sum-put f k v (e ∷ es) =
      elim (R k e.0) as (λ r. total f (by_order r ((k, v) ∷ e ∷ es) ((e.0, v) ∷ es) (e ∷ put R k v es)) ≤ f v + total f (e ∷ es)) [
        | Less ↦ omega (arith, sum_by-cons f v (map (λ (e : K × X). e.1) (e ∷ es)))
        | Equal ↦ omega (arith, sum_by-cons f v (map (λ (e : K × X). e.1) es), sum_by-cons f e.1 (map (λ (e : K × X). e.1) es))
        | Greater ↦ omega (arith, sum-put f k v es, sum_by-cons f e.1 (map (λ (e : K × X). e.1) (put R k v es)), sum_by-cons f e.1 (map (λ (e : K × X). e.1) es))
      ]

  pub sum_values-le : (f : X → ℕ) (es : List (K × X)) → sum_by f (values (from_entries {R = R} es)) ≤ total f es
  sum_values-le f [] = (let none : sum_by f (values (empty {K = K} {X = X} {R = R})) ≡ 0 = ap (total f) (no_entries K X R) in omega arith)
  sum_values-le f (e ∷ es) =
      let step : sum_by f (values (insert (from_entries {R = R} es) e.0 e.1)) ≡ total f (put R e.0 e.1 (entries (from_entries {R = R} es))) = ap (total f) (entries-insert o (from_entries es) e.0 e.1) in
      omega (arith, step, sum-put f e.0 e.1 (entries (from_entries {R = R} es)), sum_values-le f es, sum_by-cons f e.1 (map (λ (e : K × X). e.1) es))
