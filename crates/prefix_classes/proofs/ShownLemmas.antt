-- What is seen of the entries keeps their tags, one for one, and the numbers of members.
use Rattle.std.proofs.Common.{◌≡◌, ℕ, ◌+◌, ◌≤◌, Bool, true, false, cond, List, [], ◌∷◌, filter, map, ap, refl, arith}
use Rattle.std.specs.Prelude.{Option, Some, nat_lt, unwrap_or}
use Rattle.std.specs.FinMap.Entries.{find, is_sorted}
use Rattle.std.specs.Option.{option_map}
use Rattle.std.specs.Ordering.{eq_by_cmp, is_lt}
use Rattle.net_types.specs.Keys.{tag_cmp}
use Rattle.net_types.specs.declared.address.Tag.{Tag}
use Rattle.ordered_map.specs.Entries.{above}
use Rattle.prefix_classes.proofs.MappedLemmas.{find-mapped, sorted-mapped}
use Rattle.prefix_classes.specs.Counts.{has_members, tag_of, used_in}
use Rattle.prefix_classes.specs.Slots.{Slots, is_at, shown, shown_items, uses}
use Rattle.prefix_classes.specs.declared.kept.Place.{Place}

module _ (slots : Slots) where
  pub find-shown : (q : Tag) (es : List (Tag × Place)) → find tag_cmp q (shown_items slots es) ≡ option_map (shown slots) (find tag_cmp q es)
  find-shown = find-mapped (shown slots)

  pub sorted-shown : (es : List (Tag × Place)) → is_sorted tag_cmp (shown_items slots es) ≡ is_sorted tag_cmp es
  sorted-shown = sorted-mapped (shown slots)

  -- the entries of greater tags
  pub above-shown : (a : Tag) (es : List (Tag × Place)) → shown_items slots (above tag_cmp a es) ≡ above tag_cmp a (shown_items slots es)
  above-shown a [] = refl
  above-shown a (e ∷ es) =
      let rest = above-shown a es in
      elim (is_lt (tag_cmp a e.0)) as (λ b. shown_items slots (cond b (e ∷ above tag_cmp a es) (above tag_cmp a es)) ≡ cond b ((e.0, shown slots e.1) ∷ above tag_cmp a (shown_items slots es)) (above tag_cmp a (shown_items slots es))) [
        | true ↦ ap (λ ds. (e.0, shown slots e.1) ∷ ds) rest
        | false ↦ rest
      ]

-- what a tag holds is counted
pub found_counts : (n : ℕ) (q : Tag) (es : List (Tag × Place)) (p : Place) → find tag_cmp q es ≡ Some p → is_at n p.held ≤ uses n es
found_counts n q [] p is = absurd (let some = is in cc)
found_counts n q (e ∷ es) p is = by (eq_by_cmp tag_cmp q e.0) (found_counts n q es p) is
  where
    by : (b : Bool) → (find tag_cmp q es ≡ Some p → is_at n p.held ≤ uses n es) → cond b (Some e.1) (find tag_cmp q es) ≡ Some p → is_at n p.held ≤ is_at n e.1.held + uses n es
    by true later is =
        let held : is_at n e.1.held ≡ is_at n p.held = ap (λ (o : Option Place). is_at n (unwrap_or o e.1).held) is in
        omega (arith, held)
    by false later is = omega (arith, later is)

-- which tags have members doesn't depend on what is shared
pub used-shown : (slots others : Slots) (es : List (Tag × Place)) → used_in (shown_items slots es) ≡ used_in (shown_items others es)
used-shown slots others [] = refl
used-shown slots others (e ∷ es) = elim (nat_lt 0 e.1.members) as (λ b. map tag_of (cond b ((e.0, shown slots e.1) ∷ filter has_members (shown_items slots es)) (filter has_members (shown_items slots es))) ≡ map tag_of (cond b ((e.0, shown others e.1) ∷ filter has_members (shown_items others es)) (filter has_members (shown_items others es)))) [
  | true ↦ ap (λ ts. e.0 ∷ ts) (used-shown slots others es)
  | false ↦ used-shown slots others es
]
