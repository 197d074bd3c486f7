-- A key below all keys of entries isn't among them, and what a removal does to entries and to a map.
use Rattle.std.proofs.Common.{◌≡◌, true, cond, not, List, [], ◌∷◌, sym, ap, ◌∙◌, refl}
use Rattle.std.specs.Prelude.{Some, None}
use Rattle.std.specs.Ordering.{is_lt, is_eq}
use Rattle.std.specs.Cmp.{IsTotalOrder}
use Rattle.std.specs.declared.cmp.Ordering.{Ordering}
use Rattle.std.specs.declared.cmp.Ordering.TheVariants.{Less, Equal}
use Rattle.std.specs.FinMap.{FinMap, remove, entries, entries_sorted, from_sorted, entries-from_sorted, same_entries_map, IsAntisymmetric}
use Rattle.std.specs.FinMap.Entries.{find, is_sorted, below_all}
use Rattle.std.proofs.lemmas.Bool.{and_parts}
use Rattle.net_types.proofs.PlaceLemmas.{without, entries_of_sorted, without_sorted, remove_sorted}
use Rattle.net_types.proofs.TestLemmas.{shown}
use Rattle.net_types.proofs.TieLemmas.{less}
use Rattle.ordered_map.proofs.SplitLemmas.{below_smaller, below_tied}

module _ {K X : Type 0} (R : K → K → Ordering) where
  -- the first key is below all that follow
  pub first_below : (d : K × X) (ds : List (K × X)) → is_sorted R (d ∷ ds) ≡ true → below_all R d.0 ds ≡ true
  first_below d ds sorted = (and_parts (below_all R d.0 ds) (is_sorted R ds) sorted).0

  pub rest_sorted : (d : K × X) (ds : List (K × X)) → is_sorted R (d ∷ ds) ≡ true → is_sorted R ds ≡ true
  rest_sorted d ds sorted = (and_parts (below_all R d.0 ds) (is_sorted R ds) sorted).1

  module _ (o : IsTotalOrder R) where
    find_below : (q : K) (es : List (K × X)) → below_all R q es ≡ true → find R q es ≡ None
    find_below q [] h = refl
    find_below q (e ∷ es) h =
        let parts = and_parts (is_lt (R q e.0)) (below_all R q es) h in
        ap (λ r. cond (is_eq r) (Some e.1) (find R q es)) (less _ parts.0) ∙ find_below q es parts.1

    without_below : (q : K) (es : List (K × X)) → below_all R q es ≡ true → without R q es ≡ es
    without_below q [] h = refl
    without_below q (e ∷ es) h =
        let parts = and_parts (is_lt (R q e.0)) (below_all R q es) h in
        ap (λ r. cond (not (is_eq r)) (e ∷ without R q es) (without R q es)) (less _ parts.0) ∙ ap (λ ds. e ∷ ds) (without_below q es parts.1)

    -- a key below the first is not among sorted entries
    pub find_before : (q : K) (d : K × X) (ds : List (K × X)) → is_sorted R (d ∷ ds) ≡ true → R q d.0 ≡ Less → find R q ds ≡ None
    find_before q d ds sorted p = find_below q ds (below_smaller R o q d.0 ds p (first_below d ds sorted))

    -- a key that ties with the first is not among the rest
    pub without_first : (q : K) (d : K × X) (ds : List (K × X)) → is_sorted R (d ∷ ds) ≡ true → R q d.0 ≡ Equal → without R q ds ≡ ds
    without_first q d ds sorted p = without_below q ds (below_tied R o q d.0 ds p (first_below d ds sorted))

    pub entries-remove : IsAntisymmetric R → (m : FinMap R X) (k : K) → entries (remove m k) ≡ without R k (entries m)
    entries-remove same m k =
        let sorted = shown _ (entries_sorted m) in
        let whole : from_sorted {R = R} (entries m) ≡ m = same_entries_map _ _ (entries-from_sorted R (entries m) (entries_sorted m)) in
        ap (λ n. entries (remove n k)) (sym whole)
        ∙ ap entries (sym (remove_sorted R o same k (entries m) sorted))
        ∙ entries_of_sorted R (without R k (entries m)) (without_sorted R k (entries m) sorted)
