-- Where a search among keys that rise ends, they are parted.
use Rattle.std.proofs.Common.{◌≡◌, ℕ, zero, suc, ◌<◌, ◌≤◌, ◌+◌, ◌-◌, length, get_or, take, drop, List, [], ◌∷◌, ◌++◌, ap, sym, subst, ◌∙◌, refl, arith}
use Rattle.std.specs.Prelude.{true, false, Bool, ◌&&◌, Some, slice_get}
use Rattle.std.specs.Cmp.{IsTotalOrder, alike_right}
use Rattle.std.specs.List.{AllByRecursion}
use Rattle.std.specs.FinMap.Entries.{is_sorted, below_all}
use Rattle.std.specs.Ordering.{is_lt, ordering_index}
use Rattle.std.specs.List.Sorted.{IsNonDecreasingBy, IsPartitionPoint}
use Rattle.std.specs.declared.cmp.Ordering.{Ordering}
use Rattle.std.specs.declared.cmp.Ordering.TheVariants.{Less, Equal, Greater}
use Rattle.std.proofs.lemmas.Bool.{and_from, and_parts}
use Rattle.std.proofs.lemmas.Option.{same_Some}
use Rattle.std.proofs.lemmas.List.{length-drop, take-append-drop, take_all, drop_more, map-append}
use Rattle.ordered_map.specs.Parted.{IsParted, keyed}
use Rattle.ordered_map.proofs.SplitLemmas.{less, turned, below_entry, below_smaller, sorted_back, sorted_front}

-- what a slice from a place on is
pub all_after : {A : Type 0} (xs : List A) (i : ℕ) → take (length xs - i) (drop i xs) ≡ drop i xs
all_after xs i = let size = length-drop i xs in take_all (length xs - i) (drop i xs) (omega (arith, size))

module _ {K : Type 0} (R : K → K → Ordering) (o : IsTotalOrder R) where
  -- ---- one key after another

  next_rises : (x y : K) (ks : List K) → is_lt (R x y) ≡ true → is_sorted R (keyed (y ∷ ks)) ≡ is_sorted R (keyed (x ∷ y ∷ ks))
  next_rises x y ks low = by (is_sorted R (keyed (y ∷ ks))) refl
    where
      kept : Bool
      kept = is_sorted R (keyed (y ∷ ks))

      by : (b : Bool) → kept ≡ b → kept ≡ (is_lt (R x y) && below_all R x (keyed ks)) && kept
      by true rising =
          let parts = and_parts (below_all R y (keyed ks)) (is_sorted R (keyed ks)) rising in
          let below = and_from _ _ low (below_smaller R o x y (keyed ks) (less (R x y) low) parts.0) in
          rising ∙ sym (and_from _ _ below rising)
      by false falls = falls ∙ sym (ap (λ b. (is_lt (R x y) && below_all R x (keyed ks)) && b) falls ∙ and_false (is_lt (R x y) && below_all R x (keyed ks)))
        where
          and_false : (b : Bool) → b && false ≡ false
          and_false true = refl
          and_false false = refl

  pub first_rises : (ks : List K) (x y : K) → 1 ≤ length ks → (x ≡ get_or ks 0 x) → slice_get (drop 1 ks) 0 ≡ Some y → is_lt (R x y) ≡ true → is_sorted R (keyed (drop 1 ks)) ≡ is_sorted R (keyed ks)
  first_rises [] x y long is next low = absurd (omega (arith, long))
  first_rises (k ∷ []) x y long is next low = cc
  first_rises (k ∷ l ∷ ks) x y long is next low =
      let second : l ≡ y = same_Some l y next in
      next_rises k l ks (ap (λ z. is_lt (R z l)) (sym is) ∙ ap (λ z. is_lt (R x z)) second ∙ low)

  -- ---- on both sides of a key

  module _ (key : K) where
    lows : (l : List K) (k : K) (r : List K) → ((x : K) → R x k ≡ Less → R x key ≡ Less) → is_sorted R (keyed l ++ (k, tt) ∷ keyed r) ≡ true → AllByRecursion (λ x. R x key ≡ Less) l
    lows [] k r lower rising = tt
    lows (x ∷ l) k r lower rising =
        let parts = and_parts (below_all R x (keyed l ++ (k, tt) ∷ keyed r)) (is_sorted R (keyed l ++ (k, tt) ∷ keyed r)) rising in
        (lower x (below_entry R x (keyed l) (k, tt) (keyed r) parts.0), lows l k r lower parts.1)

    highs : (k : K) (r : List K) → ((x : K) → R k x ≡ Less → R x key ≡ Greater) → below_all R k (keyed r) ≡ true → AllByRecursion (λ x. R x key ≡ Greater) r
    highs k [] higher below = tt
    highs k (x ∷ r) higher below =
        let parts = and_parts (is_lt (R k x)) (below_all R k (keyed r)) below in
        (higher x (less (R k x) parts.0), highs k r higher parts.1)

    parted_at : (l : List K) (k : K) (r : List K) → is_sorted R (keyed (l ++ k ∷ r)) ≡ true → R k key ≡ Equal → IsParted R key (l ++ k ∷ r) l true r
    parted_at l k r rising tie =
        let split : is_sorted R (keyed l ++ (k, tt) ∷ keyed r) ≡ true = ap (is_sorted R) (sym (map-append (λ (x : K). (x, tt)) l (k ∷ r))) ∙ rising in
        let parts = and_parts (below_all R k (keyed r)) (is_sorted R (keyed r)) (sorted_back R (keyed l) ((k, tt) ∷ keyed r) split) in
        record {
          same = k ∷ [];
          whole = refl;
          low = lows l k r (λ x lower. sym (alike_right o k key x tie) ∙ lower) split;
          tied = (k, refl, tie);
          high = highs k r (λ x lower. turned o key x Less (sym (o.congr k key x tie) ∙ lower)) parts.0;
          low_rise = sorted_front R (keyed l) ((k, tt) ∷ keyed r) split;
          high_rise = parts.1;
        }

    whole_at : (ks : List K) (i : ℕ) (d : K) → i < length ks → take i ks ++ get_or ks i d ∷ drop (i + 1) ks ≡ ks
    whole_at ks i d within = ap (λ rest. take i ks ++ rest) (sym (drop_more ks i d within)) ∙ take-append-drop i ks

    pub found_parts : (ks : List K) (i : ℕ) → is_sorted R (keyed ks) ≡ true → i < length ks → ((d : K) → R (get_or ks i d) key ≡ Equal) → IsParted R key ks (take i ks) true (drop (i + 1) ks)
    found_parts [] i rising within tie = absurd (omega (arith, within))
    found_parts (x ∷ xs) i rising within tie =
        let whole = whole_at (x ∷ xs) i x within in
        subst (λ ks. IsParted R key ks (take i (x ∷ xs)) true (drop (i + 1) (x ∷ xs))) whole
        (parted_at (take i (x ∷ xs)) (get_or (x ∷ xs) i x) (drop (i + 1) (x ∷ xs)) (ap (λ ks. is_sorted R (keyed ks)) whole ∙ rising) (tie x))

    -- ---- between two keys

    low_front : (P : K → Type 0) (ks : List K) (i : ℕ) → i ≤ length ks → ((k : ℕ) (d : K) → k < i → P (get_or ks k d)) → AllByRecursion P (take i ks)
    low_front P ks zero within each = tt
    low_front P [] (suc i) within each = absurd (omega (arith, within))
    low_front P (x ∷ xs) (suc i) within each = (each 0 x (omega arith), low_front P xs i (omega (arith, within)) (λ k d lt. each (suc k) d (omega (arith, lt))))

    high_back : (P : K → Type 0) (ks : List K) (i : ℕ) → ((k : ℕ) (d : K) → i ≤ k → k < length ks → P (get_or ks k d)) → AllByRecursion P (drop i ks)
    high_back P [] zero each = tt
    high_back P [] (suc i) each = tt
    high_back P (x ∷ xs) zero each = (each 0 x (omega arith) (omega arith), high_back P xs zero (λ k d le lt. each (suc k) d (omega arith) (omega (arith, lt))))
    high_back P (x ∷ xs) (suc i) each = high_back P xs i (λ k d le lt. each (suc k) d (omega (arith, le)) (omega (arith, lt)))

    below_at : (x : K) (ks : List K) (j : ℕ) (d : K) → below_all R x (keyed ks) ≡ true → j < length ks → R x (get_or ks j d) ≡ Less
    below_at x [] j d below within = absurd (omega (arith, within))
    below_at x (y ∷ ks) zero d below within = less (R x y) (and_parts (is_lt (R x y)) (below_all R x (keyed ks)) below).0
    below_at x (y ∷ ks) (suc j) d below within = below_at x ks j d (and_parts (is_lt (R x y)) (below_all R x (keyed ks)) below).1 (omega (arith, within))

    higher : (x y : K) → R x y ≡ Less → ordering_index (R x key) ≤ ordering_index (R y key)
    higher x y lower = by (R x key) refl
      where
        top : R y key ≡ Greater → ordering_index (R x key) ≤ ordering_index (R y key)
        top more = subst (λ r. ordering_index (R x key) ≤ ordering_index r) (sym more) (most (R x key))
          where
            most : (r : Ordering) → ordering_index r ≤ 2
            most Less = omega arith
            most Equal = omega arith
            most Greater = omega arith

        by : (r : Ordering) → R x key ≡ r → ordering_index (R x key) ≤ ordering_index (R y key)
        by Less is = let none : ordering_index (R x key) ≡ 0 = ap ordering_index is in omega (arith, none)
        by Equal is = top (turned o key y Less (sym (o.congr x key y is) ∙ lower))
        by Greater is = top (turned o key y Less (o.trans key x y (turned o x key Greater is) lower))

    pub places_rise : (ks : List K) → is_sorted R (keyed ks) ≡ true → IsNonDecreasingBy (λ k. ordering_index (R k key)) ks
    places_rise [] rising i j d le lt = absurd (omega (arith, lt))
    places_rise (x ∷ xs) rising zero zero d le lt = omega arith
    places_rise (x ∷ xs) rising zero (suc j) d le lt = higher x (get_or xs j d) (below_at x xs j d (and_parts (below_all R x (keyed xs)) (is_sorted R (keyed xs)) rising).0 (omega (arith, lt)))
    places_rise (x ∷ xs) rising (suc i) zero d le lt = absurd (omega (arith, le))
    places_rise (x ∷ xs) rising (suc i) (suc j) d le lt = places_rise xs (and_parts (below_all R x (keyed xs)) (is_sorted R (keyed xs)) rising).1 i j d (omega (arith, le)) (omega (arith, lt))

    pub between_parts : (ks : List K) (i : ℕ) → is_sorted R (keyed ks) ≡ true → i ≤ length ks → IsPartitionPoint (λ k. R k key ≡ Less) (λ k. R k key ≡ Greater) ks i → IsParted R key ks (take i ks) false (drop i ks)
    between_parts ks i rising within point =
        let whole = take-append-drop i ks in
        let split : is_sorted R (keyed (take i ks) ++ keyed (drop i ks)) ≡ true = ap (is_sorted R) (sym (map-append (λ (x : K). (x, tt)) (take i ks) (drop i ks))) ∙ (ap (λ xs. is_sorted R (keyed xs)) whole ∙ rising) in
        record {
          same = [];
          whole = sym whole;
          low = low_front (λ k. R k key ≡ Less) ks i within (λ k d lt. point.0 k d (omega arith) lt);
          tied = refl;
          high = high_back (λ k. R k key ≡ Greater) ks i (λ k d le lt. point.1 k d le lt);
          low_rise = sorted_front R (keyed (take i ks)) (keyed (drop i ks)) split;
          high_rise = sorted_back R (keyed (take i ks)) (keyed (drop i ks)) split;
        }
