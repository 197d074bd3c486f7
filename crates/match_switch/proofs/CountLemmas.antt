-- How many rules entries have after one is put in or taken out.
use Rattle.std.proofs.Common.{◌≡◌, ℕ, ◌+◌, true, false, cond, not, List, [], ◌∷◌, length, map, sum_by, sym, ap, ◌∙◌, refl, arith}
use Rattle.std.specs.Prelude.{Option, Some, None, unwrap_or}
use Rattle.std.specs.Cmp.{IsTotalOrder}
use Rattle.std.specs.FinMap.Entries.{by_order, below_all, find, is_sorted, put}
use Rattle.std.specs.Ordering.{eq_by_cmp, is_eq, is_lt}
use Rattle.std.specs.declared.cmp.Ordering.{Ordering}
use Rattle.std.specs.declared.cmp.Ordering.TheVariants.{Less, Equal, Greater}
use Rattle.std.proofs.lemmas.Bool.{and_from, and_parts}
use Rattle.std.proofs.lemmas.List.Sums.{sum_by-cons}
use Rattle.net_types.proofs.PlaceLemmas.{without}
use Rattle.net_types.proofs.TieLemmas.{tie_Equal, less}

pub sum-values : {K X : Type 0} (f : X → ℕ) (es : List (K × X)) → sum_by f (map (λ (e : K × X). e.1) es) ≡ sum_by (λ (e : K × X). f e.1) es
sum-values f [] = refl
sum-values {K} {X} f (e ∷ es) =
    let here = sum_by-cons f e.1 (map (λ (d : K × X). d.1) es) in
    let there = sum_by-cons (λ (d : K × X). f d.1) e es in
    let later = sum-values f es in
    here ∙ ap (λ n. f e.1 + n) later ∙ sym there

module _ {K A : Type 0} (R : K → K → Ordering) (o : IsTotalOrder R) where
  -- how many things entries have
  abbrev pub count : List (K × List A) → ℕ
  count es = sum_by (λ (e : K × List A). length e.1) es

  -- how many of them a key has
  abbrev pub count_at : K → List (K × List A) → ℕ
  count_at k es = length (unwrap_or (find R k es) [])

  one : (e : K × List A) (es : List (K × List A)) → count (e ∷ es) ≡ length e.1 + count es
  one e es = sum_by-cons (λ (d : K × List A). length d.1) e es

  below_less : (x y : K) (es : List (K × List A)) → R x y ≡ Less → below_all R y es ≡ true → below_all R x es ≡ true
  below_less x y [] lt below = refl
  below_less x y (e ∷ es) lt below =
      let parts = and_parts (is_lt (R y e.0)) (below_all R y es) below in
      and_from _ _ (ap is_lt (o.trans x y e.0 lt (less _ parts.0))) (below_less x y es lt parts.1)

  below_tied : (x y : K) (es : List (K × List A)) → R x y ≡ Equal → below_all R y es ≡ true → below_all R x es ≡ true
  below_tied x y [] tie below = refl
  below_tied x y (e ∷ es) tie below =
      let parts = and_parts (is_lt (R y e.0)) (below_all R y es) below in
      and_from _ _ (ap is_lt (o.congr x y e.0 tie) ∙ parts.0) (below_tied x y es tie parts.1)

  find_below : (k : K) (es : List (K × List A)) → below_all R k es ≡ true → find R k es ≡ None
  find_below k [] below = refl
  find_below k (e ∷ es) below =
      let parts = and_parts (is_lt (R k e.0)) (below_all R k es) below in
      ap (λ r. cond (is_eq r) (Some e.1) (find R k es)) (less _ parts.0) ∙ find_below k es parts.1

  without_below : (k : K) (es : List (K × List A)) → below_all R k es ≡ true → without R k es ≡ es
  without_below k [] below = refl
  without_below k (e ∷ es) below =
      let parts = and_parts (is_lt (R k e.0)) (below_all R k es) below in
      ap (λ r. cond (not (is_eq r)) (e ∷ without R k es) (without R k es)) (less _ parts.0) ∙ ap (λ ds. e ∷ ds) (without_below k es parts.1)

  pub count-put : (k : K) (v : List A) (es : List (K × List A)) → is_sorted R es ≡ true → count (put R k v es) + count_at k es ≡ count es + length v
  count-put k v [] sorted = let first = one (k, v) [] in omega (arith, first)
  count-put k v (e ∷ es) sorted =
      let parts = and_parts (below_all R e.0 es) (is_sorted R es) sorted in
      let here = one e es in
      elim (R k e.0) as (λ r. R k e.0 ≡ r → count (by_order r ((k, v) ∷ e ∷ es) ((e.0, v) ∷ es) (e ∷ put R k v es)) + length (unwrap_or (cond (is_eq r) (Some e.1) (find R k es)) []) ≡ count (e ∷ es) + length v) [
        | Less ↦ λ t.
            let none : length (unwrap_or (find R k es) []) ≡ 0 = ap (λ (m : Option (List A)). length (unwrap_or m [])) (find_below k es (below_less k e.0 es t parts.0)) in
            let first = one (k, v) (e ∷ es) in
            omega (arith, first, none)
        | Equal ↦ λ t. let first = one (e.0, v) es in omega (arith, first, here)
        | Greater ↦ λ t.
            let first = one e (put R k v es) in
            let later = count-put k v es parts.1 in
            omega (arith, first, here, later)
      ] refl

  pub count-without : (k : K) (es : List (K × List A)) → is_sorted R es ≡ true → count (without R k es) + count_at k es ≡ count es
  count-without k [] sorted = refl
  count-without k (e ∷ es) sorted =
      let parts = and_parts (below_all R e.0 es) (is_sorted R es) sorted in
      let here = one e es in
      elim (eq_by_cmp R k e.0) as (λ b. eq_by_cmp R k e.0 ≡ b → count (cond (not b) (e ∷ without R k es) (without R k es)) + length (unwrap_or (cond b (Some e.1) (find R k es)) []) ≡ count (e ∷ es)) [
        | true ↦ λ t.
            let left : count (without R k es) ≡ count es = ap count (without_below k es (below_tied k e.0 es (tie_Equal (R k e.0) t) parts.0)) in
            omega (arith, left, here)
        | false ↦ λ t.
            let first = one e (without R k es) in
            let later = count-without k es parts.1 in
            omega (arith, first, here, later)
      ] refl
