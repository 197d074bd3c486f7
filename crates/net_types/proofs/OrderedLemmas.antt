-- The different members of a list in an order: they rise, and depend on which members it has alone. What a search finds in a
-- rising list.
use Rattle.std.proofs.Common.{◌≡◌, ℕ, zero, suc, ◌+◌, ◌<◌, arith, length, Result, Ok, Err, true, false, ◌||◌, List, [], ◌∷◌, sym, ap, ◌∙◌, refl, inl, inr, Bool, IsPermutation, subst}
use Rattle.std.specs.Prelude.{Some, is_ok, is_some, slice_index_or}
use Rattle.std.specs.Cmp.{IsTotalOrder}
use Rattle.std.specs.FinMap.{contains_key-keys}
use Rattle.std.specs.List.{list_any, AllByRecursion, dedup}
use Rattle.std.specs.Ordering.{eq_by_cmp, is_eq, is_lt}
use Rattle.std.specs.declared.cmp.Ordering.{Ordering}
use Rattle.std.proofs.lemmas.Bool.{cases_lt, false_from_ne_true, or_left, or_right}
use Rattle.std.specs.List.Sorted.{IsBinarySearchResult, IsSearchInRange, IsSorted, IsSortedBy, IsStrictlySortedBy}
use Rattle.std.specs.declared.cmp.Ordering.TheVariants.{Equal, Less}
use Rattle.std.proofs.lemmas.Cmp.{eq_by_cmp_equiv, tied_itself}
use Rattle.std.proofs.lemmas.List.Kept.{Contains-dedup, Contains-from_dedup, IsStrictlySortedBy-dedup}
use Rattle.std.proofs.lemmas.List.Sorted.{IsPermutation-sym, searchable_from_sorted}
use Rattle.net_types.proofs.FindLemmas.{is_some-cond}
use Rattle.net_types.proofs.MapLemmas.{get-tabulate}
use Rattle.net_types.proofs.RisingLemmas.{before, before_itself, before_trans, keys-IsRising}
use Rattle.net_types.proofs.SetLemmas.{rising_unique, same_trans, same_sym}
use Rattle.net_types.proofs.TieLemmas.{backward, not_tied, ties_itself}
use Rattle.net_types.specs.Maps.{ordered, tabulate}
use Rattle.net_types.specs.Sets.{Member, SameMembers, IsRising}
use Rattle.net_types.proofs.MemberLemmas.{Contains-Member, Member-at, Member-permutation}

pub each : {A : Type 0} (P : A → Type 0) (xs : List A) (x : A) → AllByRecursion P xs → Member x xs → P x
each P [] x h m = elim m [ ]
each P (y ∷ ys) x h (inl e) = subst P (sym e) h.0
each P (y ∷ ys) x h (inr m) = each P ys x h.1 m

-- a list in which each is less than the next rises
pub sorted_rises : {K : Type 0} (R : K → K → Ordering) (xs : List K) → IsStrictlySortedBy R xs → IsRising (before R) xs
unfolding IsStrictlySortedBy
sorted_rises R [] h = tt
sorted_rises R (x ∷ xs) h = (λ y m. ap is_lt (each (λ q. R x q ≡ Less) xs y h.0 m), sorted_rises R xs h.1)

module _ {K : Type 0} (R : K → K → Ordering) (o : IsTotalOrder R) (tie : (x y : K) → eq_by_cmp R x y ≡ true → x ≡ y) where
  pub member_any : (x : K) (ks : List K) → Member x ks → list_any (eq_by_cmp R x) ks ≡ true
  member_any x [] m = elim m [ ]
  member_any x (k ∷ ks) (inl e) = or_left (eq_by_cmp R x k) (list_any (eq_by_cmp R x) ks) (ap (eq_by_cmp R x) (sym e) ∙ ties_itself o x)
  member_any x (k ∷ ks) (inr m) = or_right (eq_by_cmp R x k) (list_any (eq_by_cmp R x) ks) (member_any x ks m)

  pub any_member : (x : K) (ks : List K) → list_any (eq_by_cmp R x) ks ≡ true → Member x ks
  any_member x [] e = absurd (cc)
  any_member x (k ∷ ks) e =
      elim (eq_by_cmp R x k) as (λ b. eq_by_cmp R x k ≡ b → (b || list_any (eq_by_cmp R x) ks) ≡ true → Member x (k ∷ ks)) [
        | true ↦ λ t is. inl (tie x k t)
        | false ↦ λ t is. inr (any_member x ks is)
      ] refl e

  -- a test for a tie passes in a list in order as in the list
  pub any_ordered : (x : K) (ks : List K) → list_any (eq_by_cmp R x) (ordered R ks) ≡ list_any (eq_by_cmp R x) ks
  any_ordered x ks =
      sym (contains_key-keys (tabulate R ks (λ k. Some k)) x)
      ∙ ap is_some (get-tabulate R o (λ k. Some k) (λ q k t. ap Some (sym (tie q k t))) ks x)
      ∙ is_some-cond (list_any (eq_by_cmp R x) ks) x

  -- a list in order has the same members
  pub ordered_same : (ks : List K) → SameMembers (ordered R ks) ks
  ordered_same ks = record {
    onto = λ x m. any_member x ks (sym (any_ordered x ks) ∙ member_any x (ordered R ks) m);
    back = λ x m. any_member x (ordered R ks) (any_ordered x ks ∙ member_any x ks m);
  }

  pub ordered_rises : (ks : List K) → IsRising (before R) (ordered R ks)
  ordered_rises ks = keys-IsRising R (tabulate R ks (λ k. Some k))

  -- a rising list of the same members is the list in order
  pub ordered_is : (xs ks : List K) → IsRising (before R) xs → SameMembers xs ks → xs ≡ ordered R ks
  ordered_is xs ks rises same =
      rising_unique (before R) (before_itself R o) (before_trans R o) xs (ordered R ks) rises (ordered_rises ks) (same_trans same (same_sym (ordered_same ks)))

  -- lists of the same members are the same list in order
  pub ordered_alike : (xs ys : List K) → SameMembers xs ys → ordered R xs ≡ ordered R ys
  ordered_alike xs ys same = ordered_is (ordered R xs) ys (ordered_rises xs) (same_trans (ordered_same xs) same)

  tied_is : (xs ys : List K) → IsPermutation xs ys → IsSorted R ys → dedup (eq_by_cmp R) ys ≡ ordered R xs
  tied_is xs ys moved sorted =
      let once = dedup (eq_by_cmp R) ys in
      ordered_is once xs (sorted_rises R once (IsStrictlySortedBy-dedup o (λ x y. refl) ys sorted)) (record {
        onto = λ x m.
            let c = Contains-from_dedup (eq_by_cmp R) ys x (Contains-Member once x m) in
            Member-permutation ys xs x (IsPermutation-sym xs ys moved) (Member-at ys c.0 x x c.1 c.2);
        back = λ x m.
            let c = Contains-dedup (eq_by_cmp_equiv o) tie ys x (Contains-Member ys x (Member-permutation xs ys x moved m)) in
            Member-at once c.0 x x c.1 c.2;
      })

  -- a sorted list without repeats is the list in order: the test of `dedup` says what ties
  pub deduped_is : (test : K → K → Bool) → ((x y : K) → test x y ≡ eq_by_cmp R x y) → (xs ys : List K) → IsPermutation xs ys → IsSorted R ys → dedup test ys ≡ ordered R xs
  deduped_is test ties xs ys moved sorted =
      let alike : test ≡ eq_by_cmp R = λ i x y. ties x y i in
      ap (λ (f : K → K → Bool). dedup f ys) alike ∙ tied_is xs ys moved sorted

-- ---- search

module _ {K : Type 0} (R : K → K → Ordering) (o : IsTotalOrder R) (tie : (x y : K) → eq_by_cmp R x y ≡ true → x ≡ y) where
  -- a rising list is sorted
  in_order : (xs : List K) → IsRising (before R) xs → IsSortedBy (λ x y. is_lt (R x y)) xs
  in_order xs r k d low within = go xs r k within
    where
      go : (xs : List K) → IsRising (before R) xs → (k : ℕ) → k + 1 < length xs → is_lt (R (slice_index_or xs (k + 1) d) (slice_index_or xs k d)) ≡ false
      go [] r k within = absurd (omega arith)
      go (x ∷ []) r k within = absurd (omega arith)
      go (x ∷ y ∷ ys) r zero within = backward (R x y) (R y x) (o.antisymm x y) (r.0 y (inl refl))
      go (x ∷ y ∷ ys) r (suc k) within =
          let e : suc k + 1 ≡ suc (k + 1) = omega arith in
          subst (λ (j : ℕ). is_lt (R (slice_index_or (x ∷ y ∷ ys) j d) (slice_index_or (y ∷ ys) k d)) ≡ false) (sym e) (go (y ∷ ys) r.1 k (omega arith))

  -- a search in a rising list finds what is there
  pub search_finds : (xs : List K) (x : K) (r : Result ℕ ℕ) → IsRising (before R) xs → IsSearchInRange r (length xs) → IsBinarySearchResult (λ y. R y x) xs r → is_ok r ≡ list_any (eq_by_cmp R x) xs
  search_finds xs x (Ok i) rises within found = sym (member_any R o tie x xs (Member-at xs i x x within (tie (slice_index_or xs i x) x (ap is_eq (found x)))))
  search_finds xs x (Err i) rises within found = sym (false_from_ne_true (list_any (eq_by_cmp R x) xs) (λ among.
      let c = Contains-Member xs x (any_member R o tie x xs among) in
      let halves = found (searchable_from_sorted o (λ (y : K). y) xs x (in_order xs rises)) in
      let level : R (slice_index_or xs c.0 x) x ≡ Equal = ap (λ (y : K). R y x) c.2 ∙ tied_itself o x in
      not_tied (R (slice_index_or xs c.0 x) x) level (elim (cases_lt c.0 i) [ inl low ↦ inl (halves.0 c.0 x (omega arith) low) | inr high ↦ inr (halves.1 c.0 x high c.1) ])))
