-- The tags of the entries that have members are the tags that have members.
use Rattle.std.proofs.Common.{◌≡◌, ◌<◌, Bool, true, false, cond, List, [], ◌∷◌, filter, map, sym, ap, subst, ◌∙◌, refl, arith, inl, inr, ◌⊎◌}
use Rattle.std.specs.Prelude.{Some}
use Rattle.std.specs.FinMap.{FinMap}
use Rattle.std.specs.FinMap.Entries.{find, is_sorted}
use Rattle.std.specs.Ordering.{eq_by_cmp}
use Rattle.std.proofs.lemmas.Bool.{ltb-true, lt-ltb}
use Rattle.net_types.proofs.OrderLemmas.{tags_total}
use Rattle.net_types.proofs.TieLemmas.{tag_tie, ties_itself}
use Rattle.net_types.specs.Keys.{prefix_cmp, tag_cmp}
use Rattle.net_types.specs.Sets.{IsRising, Member}
use Rattle.net_types.specs.declared.address.Tag.{Tag}
use Rattle.prefix_classes.proofs.BelowLemmas.{first_below, rest_sorted}
use Rattle.prefix_classes.proofs.NextLemmas.{below_found}
use Rattle.prefix_classes.specs.Classes.{AreUsedTags, is_less}
use Rattle.prefix_classes.specs.Counts.{IsCounted, counted, has_members, members_of, tag_of, used_in}
use Rattle.prefix_classes.specs.declared.members.Kept.{Kept}

tie_or_not : (t u : Tag) → (eq_by_cmp tag_cmp t u ≡ true) ⊎ (eq_by_cmp tag_cmp t u ≡ false)
tie_or_not t u = elim (eq_by_cmp tag_cmp t u) as (λ b. (b ≡ true) ⊎ (b ≡ false)) [ true ↦ inl refl | false ↦ inr refl ]

module _ (d : Tag × Kept) (ds : List (Tag × Kept)) where
  here : (u : Tag) → eq_by_cmp tag_cmp u d.0 ≡ true → counted (d ∷ ds) u ≡ d.1.members
  here u tie = ap (λ b. members_of (cond b (Some d.1) (find tag_cmp u ds))) tie

  behind : (u : Tag) → eq_by_cmp tag_cmp u d.0 ≡ false → counted (d ∷ ds) u ≡ counted ds u
  behind u apart = ap (λ b. members_of (cond b (Some d.1) (find tag_cmp u ds))) apart

  -- what is counted behind the first entry is counted with it
  still_counted : is_sorted tag_cmp (d ∷ ds) ≡ true → (u : Tag) → 0 < counted ds u → 0 < counted (d ∷ ds) u
  still_counted sorted u some = by (tie_or_not u d.0)
    where
      by : (eq_by_cmp tag_cmp u d.0 ≡ true) ⊎ (eq_by_cmp tag_cmp u d.0 ≡ false) → 0 < counted (d ∷ ds) u
      by (inl tie) =
          let same : u.0 ≡ d.0.0 = ap (λ (t : Tag). t.0) (tag_tie u d.0 tie) in
          let later = below_found d.0 u ds (first_below tag_cmp d ds sorted) some in
          absurd (omega (arith, same, later))
      by (inr apart) = subst (λ n. 0 < n) (sym (behind u apart)) some

used_counted : (es : List (Tag × Kept)) → is_sorted tag_cmp es ≡ true → (u : Tag) → Member u (used_in es) → 0 < counted es u
used_counted [] sorted u m = elim m [ ]
used_counted (d ∷ ds) sorted u m = by (has_members d) refl m (λ n. still_counted d ds sorted u (used_counted ds (rest_sorted tag_cmp d ds sorted) u n))
  where
    first : has_members d ≡ true → u ≡ d.0 → 0 < counted (d ∷ ds) u
    first some same =
        let number = here d ds d.0 (ties_itself tags_total d.0) in
        let positive : 0 < d.1.members = ltb-true 0 d.1.members some in
        subst (λ v. 0 < counted (d ∷ ds) v) (sym same) (omega (arith, number, positive))

    by : (b : Bool) → has_members d ≡ b → Member u (map tag_of (cond b (d ∷ filter has_members ds) (filter has_members ds))) → (Member u (used_in ds) → 0 < counted (d ∷ ds) u) → 0 < counted (d ∷ ds) u
    by true some (inl same) later = first some same
    by true some (inr n) later = later n
    by false none n later = later n

counted_used : (es : List (Tag × Kept)) (u : Tag) → 0 < counted es u → Member u (used_in es)
counted_used [] u some = absurd (omega arith)
counted_used (d ∷ ds) u some = by (tie_or_not u d.0) (has_members d) refl (λ apart. counted_used ds u (subst (λ n. 0 < n) (behind d ds u apart) some))
  where
    by : (eq_by_cmp tag_cmp u d.0 ≡ true) ⊎ (eq_by_cmp tag_cmp u d.0 ≡ false) → (b : Bool) → has_members d ≡ b → (eq_by_cmp tag_cmp u d.0 ≡ false → Member u (used_in ds)) → Member u (map tag_of (cond b (d ∷ filter has_members ds) (filter has_members ds)))
    by (inl tie) true has later = inl (tag_tie u d.0 tie)
    by (inl tie) false has later =
        let full : has_members d ≡ true = lt-ltb 0 d.1.members (subst (λ n. 0 < n) (here d ds u tie) some) in
        absurd (let e = sym full ∙ has in cc)
    by (inr apart) true has later = inr (later apart)
    by (inr apart) false has later = later apart

used_rise : (es : List (Tag × Kept)) → is_sorted tag_cmp es ≡ true → IsRising is_less (used_in es)
used_rise [] sorted = tt
used_rise (d ∷ ds) sorted = by (has_members d) (used_rise ds rest)
  where
    rest : is_sorted tag_cmp ds ≡ true
    rest = rest_sorted tag_cmp d ds sorted

    by : (b : Bool) → IsRising is_less (used_in ds) → IsRising is_less (map tag_of (cond b (d ∷ filter has_members ds) (filter has_members ds)))
    by true later = (λ u m. lt-ltb d.0.0 u.0 (below_found d.0 u ds (first_below tag_cmp d ds sorted) (used_counted ds rest u m)), later)
    by false later = later

pub used_are : (m : FinMap prefix_cmp Tag) (es : List (Tag × Kept)) → IsCounted m es → AreUsedTags m (used_in es)
used_are m es is = record {
  rising = used_rise es is.sorted;
  used = λ t there. subst (λ n. 0 < n) (is.counts t) (used_counted es is.sorted t there);
  all = λ t some. counted_used es t (subst (λ n. 0 < n) (sym (is.counts t)) some);
}
