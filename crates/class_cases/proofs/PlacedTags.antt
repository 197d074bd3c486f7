-- The tags with members are placed one after another.
use Rattle.std.proofs.Common.{◌≡◌, ℕ, zero, suc, ◌-◌, ◌<◌, ◌≤◌, Bool, true, false, cond, List, refl, sym, ap, subst, ◌∙◌, arith}
use Rattle.std.specs.Prelude.{Option, Some, None, is_some, nat_lt}
use Rattle.std.specs.FinMap.{FinMap, empty, get, insert, get-empty, get-insert}
use Rattle.std.specs.Ordering.{eq_by_cmp}
use Rattle.std.proofs.lemmas.Bool.{ltb-false, ltb-true}
use Rattle.net_types.proofs.OrderLemmas.{tags_total}
use Rattle.net_types.proofs.TieLemmas.{same_from_tie, tag_cmp-IsAntisymmetric, ties_itself}
use Rattle.net_types.specs.Keys.{prefix_cmp, tag_cmp}
use Rattle.net_types.specs.Maps.{put_option}
use Rattle.net_types.specs.declared.address.Tag.{Tag}
use Rattle.net_types.specs.declared.route.Part.{Part}
use Rattle.prefix_classes.proofs.MergeLemmas.{same_number, used_is}
use Rattle.prefix_classes.specs.Classes.{IsAbove, IsNextTag, members}
use Rattle.prefix_classes.specs.Merging.{IsFull, used_sig}

-- how many numbers of 32 bits are above a tag
abbrev pub tags_above : Option Tag → ℕ
tags_above None = 4294967297
tags_above (Some t) = 4294967296 - t.0

module _ (tags : FinMap prefix_cmp Tag) (kept : FinMap tag_cmp (List Part)) where
  -- none above a tag is placed, and of the others those with members, with their kept signatures
  pub record ArePlaced (last : Option Tag) (grouping : FinMap tag_cmp (List Part)) : Type 0 where
    pub above : (t : Tag) → IsAbove last t → get grouping t ≡ None
    pub others : (t : Tag) → ¬ IsAbove last t → get grouping t ≡ used_sig tags kept t

  pub none_placed : ArePlaced None empty
  none_placed = record {
    above = λ t _. get-empty tag_cmp t;
    others = λ t not. absurd (not tt);
  }

  -- a tag without members has no signature
  unused : (t : Tag) → members tags t ≡ 0 → None ≡ used_sig tags kept t
  unused t none = ap (λ n. cond (nat_lt 0 n) (get kept t) None) (sym none)

  module _ (last : Option Tag) (next : Tag) (is : IsNextTag tags last next) (sig : List Part) (has : get kept next ≡ Some sig) (old new : FinMap tag_cmp (List Part)) (put : new ≡ insert old next sig) where
    -- what there is of a tag beside the one that is placed
    beside : (t : Tag) → ¬ (t ≡ next) → get new t ≡ get old t
    beside t other = by (eq_by_cmp tag_cmp t next) refl
      where
        by : (b : Bool) → eq_by_cmp tag_cmp t next ≡ b → get new t ≡ get old t
        by true tie = absurd (other (same_from_tie tag_cmp tag_cmp-IsAntisymmetric t next tie))
        by false apart = ap (λ m. get m t) put ∙ get-insert tags_total old next sig t ∙ ap (λ b. cond b (Some sig) (get old t)) apart

    here : (t : Tag) → t ≡ next → get new t ≡ used_sig tags kept t
    here t same =
        ap (λ m. get m t) put
        ∙ get-insert tags_total old next sig t
        ∙ ap (λ x. cond (eq_by_cmp tag_cmp x next) (Some sig) (get old t)) same
        ∙ ap (λ b. cond b (Some sig) (get old t)) (ties_itself tags_total next)
        ∙ sym has
        ∙ sym (used_is tags kept next is.used)
        ∙ ap (used_sig tags kept) (sym same)

    -- what is above the one that is placed was above the last one
    higher : (l : Option Tag) → IsAbove l next → (t : Tag) → next.0 < t.0 → IsAbove l t
    higher None next_above t above = tt
    higher (Some a) next_above t above = omega (arith, next_above, above)

    -- a tag between the last one and the one that is placed has no members
    between : (t : Tag) → IsAbove last t → t.0 < next.0 → members tags t ≡ 0
    between t above below = by (members tags t) refl
      where
        by : (n : ℕ) → members tags t ≡ n → n ≡ 0
        by zero none = refl
        by (suc n) some = let low : next.0 ≤ t.0 = is.least t (omega (arith, some)) above in absurd (omega (arith, low, below))

    -- a tag below the one that is placed
    lower : (l : Option Tag) → l ≡ last → ((t : Tag) → IsAbove l t → get old t ≡ None) → ((t : Tag) → ¬ IsAbove l t → get old t ≡ used_sig tags kept t) → (t : Tag) → t.0 < next.0 → get old t ≡ used_sig tags kept t
    lower None same none some t below = none t tt ∙ unused t (between t (subst (λ x. IsAbove x t) same tt) below)
    lower (Some a) same none some t below = by (nat_lt a.0 t.0) refl
      where
        by : (b : Bool) → nat_lt a.0 t.0 ≡ b → get old t ≡ used_sig tags kept t
        by true e = let above : a.0 < t.0 = ltb-true a.0 t.0 e in none t above ∙ unused t (between t (subst (λ x. IsAbove x t) same above) below)
        by false e = some t (λ above. let low : t.0 ≤ a.0 = ltb-false a.0 t.0 e in omega (arith, low, above))

    pub one_placed : ArePlaced last old → ArePlaced (Some next) new
    one_placed before = record {
      above = λ t above. beside t (λ same. let e : t.0 ≡ next.0 = ap (λ (x : Tag). x.0) same in omega (arith, e, above)) ∙ before.above t (higher last is.above t above);
      others = λ t not. by t not (nat_lt t.0 next.0) refl;
    }
      where
        highest : (t : Tag) → ¬ (next.0 < t.0) → next.0 ≤ t.0 → t.0 ≡ next.0
        highest t not low = at (nat_lt next.0 t.0) refl
          where
            at : (b : Bool) → nat_lt next.0 t.0 ≡ b → t.0 ≡ next.0
            at true above = absurd (not (ltb-true next.0 t.0 above))
            at false e = let high : t.0 ≤ next.0 = ltb-false next.0 t.0 e in omega (arith, low, high)

        by : (t : Tag) → ¬ (next.0 < t.0) → (b : Bool) → nat_lt t.0 next.0 ≡ b → get new t ≡ used_sig tags kept t
        by t not true e =
            let below : t.0 < next.0 = ltb-true t.0 next.0 e in
            beside t (λ same. let e : t.0 ≡ next.0 = ap (λ (x : Tag). x.0) same in omega (arith, e, below)) ∙ lower last refl before.above before.others t below
        by t not false e =
            let low : next.0 ≤ t.0 = ltb-false t.0 next.0 e in
            here t (same_number t next (highest t not low))

  -- so it is with what is kept for it
  pub next_placed : (last : Option Tag) (next : Tag) → IsNextTag tags last next → (o : Option (List Part)) → get kept next ≡ o → is_some o ≡ true → (old new : FinMap tag_cmp (List Part)) → new ≡ put_option next o old → ArePlaced last old → ArePlaced (Some next) new
  next_placed last next is None has some old new put before = cc
  next_placed last next is (Some sig) has some old new put before = one_placed last next is sig has old new put before

  -- where no tag above the last one has members, all that have some are placed
  pub all_placed : (last : Option Tag) (grouping : FinMap tag_cmp (List Part)) → ArePlaced last grouping → ((t : Tag) → IsAbove last t → members tags t ≡ 0) → IsFull tags kept grouping
  all_placed None grouping placed none t = placed.above t tt ∙ unused t (none t tt)
  all_placed (Some a) grouping placed none t = by (nat_lt a.0 t.0) refl
    where
      by : (b : Bool) → nat_lt a.0 t.0 ≡ b → get grouping t ≡ used_sig tags kept t
      by true e = let above : a.0 < t.0 = ltb-true a.0 t.0 e in placed.above t above ∙ unused t (none t above)
      by false e = placed.others t (λ above. let low : t.0 ≤ a.0 = ltb-false a.0 t.0 e in omega (arith, low, above))
