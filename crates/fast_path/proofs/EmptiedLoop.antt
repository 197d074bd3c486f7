-- The step of the loop over the old tags, each once, and its end.
use Rattle.std.proofs.Common.{◌≡◌, ◌≢◌, ℕ, ◌+◌, ◌≤◌, ◌<◌, true, false, cond, nat_eq, List, [], ◌∷◌, ◌++◌, length, get_or, take, filter, count_by, IsPermutation, sym, ap, ◌∙◌}
use Rattle.std.specs.FinMap.{FinMap}
use Rattle.std.proofs.lemmas.Bool.{eq-eqb, ne_eqb}
use Rattle.std.proofs.lemmas.List.{take_all, append-nil}
use Rattle.std.proofs.lemmas.List.Elements.{filter_more}
use Rattle.std.proofs.lemmas.List.Sorted.{IsPermutation-sym, sum_by-IsPermutation}
use Rattle.net_types.proofs.OrderedLemmas.{ordered_alike}
use Rattle.events.specs.Tags.{same_tag}
use Rattle.fast_path.specs.Emptied.{emptied_of, is_left_of}
use Rattle.net_types.proofs.MemberLemmas.{Member-permutation}
use Rattle.net_types.proofs.OrderLemmas.{tags_total}
use Rattle.net_types.proofs.TieLemmas.{tag_tie}
use Rattle.net_types.specs.Keys.{prefix_cmp, tag_cmp}
use Rattle.net_types.specs.Maps.{ordered}
use Rattle.net_types.specs.declared.address.Tag.{Tag}
use Rattle.prefix_classes.specs.Classes.{members}

module _ (m : FinMap prefix_cmp Tag) (old sorted : List Tag) (moved : IsPermutation old sorted) where
  -- what is counted among the sorted tags is counted among the old ones
  counted_is : (t : Tag) (again : List Tag) (n k : ℕ) → again ≡ sorted → n ≡ count_by (same_tag t) again → k ≡ members m t → nat_eq n k ≡ is_left_of m old t
  counted_is t again n k same count all =
      let moved_count = sum_by-IsPermutation (λ u. cond (same_tag t u) 1 0) old sorted moved in
      let left : n ≡ count_by (same_tag t) old = count ∙ ap (count_by (same_tag t)) same ∙ moved_count in
      λ i. nat_eq (left i) (all i)

  module _ (once : List Tag) (i : ℕ) (d : Tag) (within : i < length once) (ys : List Tag) (so_far : ys ≡ filter (is_left_of m old) (take i once)) (again : List Tag) (n k : ℕ) (same : again ≡ sorted)
      (count : n ≡ count_by (same_tag (get_or once i d)) again) (all : k ≡ members m (get_or once i d)) where
    pub one_left : n ≡ k → (zs : List Tag) → zs ≡ ys ++ get_or once i d ∷ [] → zs ≡ filter (is_left_of m old) (take (i + 1) once)
    one_left equal zs more =
        let passes : is_left_of m old (get_or once i d) ≡ true = sym (counted_is (get_or once i d) again n k same count all) ∙ eq-eqb n k equal in
        more ∙ ap (λ xs. xs ++ get_or once i d ∷ []) so_far
        ∙ sym (filter_more (is_left_of m old) once i d within ∙ ap (λ b. filter (is_left_of m old) (take i once) ++ cond b (get_or once i d ∷ []) []) passes)

    pub none_left : n ≢ k → (zs : List Tag) → zs ≡ ys → zs ≡ filter (is_left_of m old) (take (i + 1) once)
    none_left apart zs more =
        let fails : is_left_of m old (get_or once i d) ≡ false = sym (counted_is (get_or once i d) again n k same count all) ∙ ne_eqb n k apart in
        more ∙ so_far ∙ sym (filter_more (is_left_of m old) once i d within ∙ ap (λ b. filter (is_left_of m old) (take i once) ++ cond b (get_or once i d ∷ []) []) fails ∙ append-nil (filter (is_left_of m old) (take i once)))

  -- after the last they are all
  pub all_left : (ys once items again : List Tag) (i : ℕ) → ys ≡ filter (is_left_of m old) (take i items) → length items ≤ i → items ≡ once → once ≡ ordered tag_cmp again → again ≡ sorted → ys ≡ emptied_of m old
  all_left ys once items again i so_far past same in_order copied =
      so_far ∙ ap (filter (is_left_of m old)) (take_all i items past ∙ same ∙ in_order ∙ ap (ordered tag_cmp) copied
      ∙ ordered_alike tag_cmp tags_total tag_tie sorted old (record { onto = λ x. Member-permutation sorted old x (IsPermutation-sym old sorted moved); back = λ x. Member-permutation old sorted x moved }))
