-- The tags of changed prefixes that no other prefix has are those that no prefix has once the changes are made.
use Rattle.std.proofs.Common.{◌≡◌, ◌⊎◌, ℕ, zero, suc, ◌+◌, ◌<◌, Bool, true, false, cond, not, List, [], ◌∷◌, map, count_by, sym, ap, ◌∙◌, refl, arith, inl, inr}
use Rattle.std.specs.Prelude.{Option, Some, None}
use Rattle.std.specs.Cmp.{unsigned_ties}
use Rattle.std.specs.FinMap.{FinMap, get}
use Rattle.std.specs.List.{cons_option}
use Rattle.std.proofs.lemmas.Bool.{eq-eqb, eqb-true, false_from_ne_true}
use Rattle.std.proofs.lemmas.List.Sums.{sum_by-cons}
use Rattle.net_types.proofs.OrderedLemmas.{ordered_same}
use Rattle.events.specs.Fits.{tag_changes}
use Rattle.events.specs.State.{State}
use Rattle.events.specs.Tags.{fresh_tag, group_of, is_carried, is_changed, retagged, same_tag}
use Rattle.events.specs.declared.TagChange.{TagChange}
use Rattle.exchange_laws.proofs.FreshTags.{fresh_free}
use Rattle.exchange_laws.proofs.Lists.{clash}
use Rattle.exchange_laws.proofs.Sames.{tag_itself, tag_same}
use Rattle.exchange_laws.proofs.TagsAfter.{live_of, tags_are}
use Rattle.fast_path.proofs.PortsAndTags.{has_prefix_of, prefix_with}
use Rattle.fast_path.specs.Emptied.{emptied, is_left, old_tags}
use Rattle.fast_path.specs.LiveOnly.{AreEmptied, has_prefix}
use Rattle.net_types.proofs.OrderLemmas.{tags_total}
use Rattle.net_types.proofs.RisingLemmas.{Member-filter, filter-Member}
use Rattle.net_types.proofs.SetLemmas.{given_by}
use Rattle.net_types.proofs.TieLemmas.{tag_tie}
use Rattle.net_types.specs.Attributes.{same_option}
use Rattle.net_types.specs.Exports.{Routing}
use Rattle.net_types.specs.Keys.{prefix_cmp, tag_cmp}
use Rattle.net_types.specs.Maps.{ordered}
use Rattle.net_types.specs.Sets.{Member}
use Rattle.net_types.specs.declared.address.Tag.{Tag}
use Rattle.net_types.specs.declared.prefix.Prefix.{Prefix}
use Rattle.prefix_classes.proofs.ChangeLemmas.{changes_are_counted}
use Rattle.prefix_classes.proofs.MemberLemmas.{no_members}
use Rattle.prefix_classes.specs.Classes.{has_tag, is_tag, members}
use Rattle.prefix_classes.specs.Laws.{AreRising, changed, joined, left}
use Rattle.fast_path.proofs.CommittedTags.{changes_rise, each_made, tag_then}
use Rattle.fast_path.specs.Committing.{change_of}

-- ---- the counts

one_tag : (t u : Tag) → cond (same_tag t u) 1 0 ≡ is_tag t u
one_tag t u = ap (λ b. cond b 1 0) (unsigned_ties t.0 u.0)

count_option : (t : Tag) (o : Option Tag) (ts : List Tag) → count_by (same_tag t) (cons_option o ts) ≡ has_tag t o + count_by (same_tag t) ts
count_option t None ts = omega arith
count_option t (Some u) ts = sum_by-cons (λ x. cond (same_tag t x) 1 0) u ts ∙ ap (λ n. n + count_by (same_tag t) ts) (one_tag t u)

-- so many of the old tags are this one as leave it
left_is : (m : FinMap prefix_cmp Tag) (cs : List TagChange) (t : Tag) → left m (map change_of cs) t ≡ count_by (same_tag t) (old_tags m cs)
left_is m [] t = refl
left_is m (c ∷ cs) t = ap (λ n. has_tag t (get m c.prefix) + n) (left_is m cs t) ∙ sym (count_option t (get m c.prefix) (old_tags m cs))

other_tag : (t u : Tag) → (u ≡ t → ⊥) → is_tag t u ≡ 0
other_tag t u other = ap (λ b. cond b 1 0) (sym (unsigned_ties t.0 u.0) ∙ false_from_ne_true (same_tag t u) (λ e. other (sym (tag_same t u e))))

not_tagged : (t : Tag) (o : Option Tag) → (o ≡ Some t → ⊥) → has_tag t o ≡ 0
not_tagged t None other = refl
not_tagged t (Some u) other = other_tag t u (λ e. other (ap Some e))

-- none joins a tag that no change gives
joined_none : (cs : List TagChange) (t : Tag) → ((c : TagChange) → Member c cs → c.tag ≡ Some t → ⊥) → joined (map change_of cs) t ≡ 0
joined_none [] t none = refl
joined_none (c ∷ cs) t none =
    let here = not_tagged t c.tag (none c (inl refl)) in
    let later = joined_none cs t (λ d m. none d (inr m)) in
    omega (arith, here, later)

-- what is counted stands there
counted_Member : (t : Tag) (ts : List Tag) → 0 < count_by (same_tag t) ts → Member t ts
counted_Member t [] some = absurd (omega arith)
counted_Member t (u ∷ ts) some = by (same_tag t u) refl (counted_Member t ts)
  where
    by : (b : Bool) → same_tag t u ≡ b → (0 < count_by (same_tag t) ts → Member t ts) → Member t (u ∷ ts)
    by true is later = inl (tag_same t u is)
    by false is later =
        let step = sum_by-cons (λ x. cond (same_tag t x) 1 0) u ts in
        let fail : ℕ = 0 in
        let here : cond (same_tag t u) 1 fail ≡ fail = ap (λ c. cond c 1 fail) is in
        inr (later (omega (arith, step, here)))

-- ---- changes of different prefixes whose new tags no prefix has

-- no prefix has the new tag of a change
abbrev pub AreFresh : FinMap prefix_cmp Tag → List TagChange → Type 0
AreFresh m cs = (c : TagChange) (p : Prefix) (t : Tag) → Member c cs → c.tag ≡ Some t → get m p ≡ Some t → ⊥

module _ (m : FinMap prefix_cmp Tag) (cs : List TagChange) (rising : AreRising (map change_of cs)) (fresh : AreFresh m cs) (t : Tag) where
  -- where a prefix has the tag, all its members are those that leave and those that stay
  all_counted : (p : Prefix) → get m p ≡ Some t → members (changed m (map change_of cs)) t + count_by (same_tag t) (old_tags m cs) ≡ members m t
  all_counted p has =
      let all = changes_are_counted m (map change_of cs) t rising in
      let left_ = left_is m cs t in
      let none = joined_none cs t (λ c stands e. fresh c p t stands e has) in
      omega (arith, all, left_, none)

  pub emptied_none : (p : Prefix) → get m p ≡ Some t → is_left m cs t ≡ true → (q : Prefix) → get (changed m (map change_of cs)) q ≡ Some t → ⊥
  emptied_none p has is =
      let all = all_counted p has in
      let same = eqb-true (count_by (same_tag t) (old_tags m cs)) (members m t) is in
      (no_members (changed m (map change_of cs)) t).0 (omega (arith, all, same))

  pub none_emptied : (p : Prefix) → get m p ≡ Some t → ((q : Prefix) → get (changed m (map change_of cs)) q ≡ Some t → ⊥) → Member t (emptied m cs)
  none_emptied p has none =
      let all = all_counted p has in
      let no_more = (no_members (changed m (map change_of cs)) t).1 none in
      let same : count_by (same_tag t) (old_tags m cs) ≡ members m t = omega (arith, all, no_more) in
      let stands : Member t (old_tags m cs) = elim (some_or_none (members m t)) [
        | inl zero_is ↦ absurd ((no_members m t).0 zero_is p has)
        | inr more ↦ counted_Member t (old_tags m cs) (omega (arith, same, more))
      ] in
      Member-filter (is_left m cs) (ordered tag_cmp (old_tags m cs)) t ((ordered_same tag_cmp tags_total tag_tie (old_tags m cs)).back t stands) (eq-eqb (count_by (same_tag t) (old_tags m cs)) (members m t) same)
    where
      some_or_none : (n : ℕ) → (n ≡ 0) ⊎ (0 < n)
      some_or_none zero = inl refl
      some_or_none (suc n) = inr (omega arith)

-- a tag among those emptied was a prefix's
pub emptied_had : (m : FinMap prefix_cmp Tag) (cs : List TagChange) (t : Tag) → Member t (emptied m cs) → (p : Prefix) × (get m p ≡ Some t) × (is_left m cs t ≡ true)
emptied_had m cs t stands =
    let kept = filter-Member (is_left m cs) (ordered tag_cmp (old_tags m cs)) t stands in
    let from = given_by (λ (c : TagChange). get m c.prefix) cs t ((ordered_same tag_cmp tags_total tag_tie (old_tags m cs)).onto t kept.stands) in
    (from.source.prefix, from.is, kept.passes)

-- ---- a line that builds rules

-- a prefix's new tag is one that no prefix had, or the one it had
new_or_same : (s : State) (r : Routing) (p q : Prefix) (t : Tag) → get (retagged s r).tag p ≡ Some t → get s.tag q ≡ Some t → get s.tag p ≡ Some t
new_or_same s r p q t new old = by (is_carried r p) (is_changed s r p) (sym (tags_are s r p) ∙ new)
  where
    by : (c d : Bool) → cond c (cond d (fresh_tag s r (group_of s r p)) (get s.tag p)) None ≡ Some t → get s.tag p ≡ Some t
    by true true e = absurd (clash (live_of s q t old) (fresh_free s r (group_of s r p) t e).unused)
    by true false e = e
    by false d e = absurd (cc)

pub are_fresh : (s : State) (r : Routing) → AreFresh s.tag (tag_changes s.tag (retagged s r).tag)
are_fresh s r c p t stands gives has =
    let is = each_made s.tag (retagged s r).tag c stands in
    let new = sym is.tagged ∙ gives in
    let old = new_or_same s r c.prefix p t new has in
    clash is.differs (ap (λ o. not (same_option same_tag o (get (retagged s r).tag c.prefix))) old ∙ ap (λ o. not (same_option same_tag (Some t) o)) new ∙ ap not (tag_itself t))

module _ (s : State) (r : Routing) where
  abbrev m1 : FinMap prefix_cmp Tag
  m1 = (retagged s r).tag

  abbrev made : List TagChange
  made = tag_changes s.tag m1

  pub emptied_are : AreEmptied s (retagged s r) (emptied s.tag made)
  emptied_are = record {
    each = λ t stands.
        let had = emptied_had s.tag made t stands in (
          has_prefix_of s had.0 t had.1,
          false_from_ne_true (has_prefix (retagged s r) t) (λ has.
              let still = prefix_with (retagged s r) t has in
              emptied_none s.tag made (changes_rise s.tag m1) (are_fresh s r) t had.0 had.1 had.2 still.prefix (tag_then s.tag m1 still.prefix ∙ still.tagged)),
        );
    all = λ t has none.
        let had = prefix_with s t has in
        none_emptied s.tag made (changes_rise s.tag m1) (are_fresh s r) t had.prefix had.tagged (λ q still.
        clash (has_prefix_of (retagged s r) q t (sym (tag_then s.tag m1 q) ∙ still)) none);
  }

pub emptied_are_those : (s : State) (r : Routing) → AreEmptied s (retagged s r) (emptied s.tag (tag_changes s.tag (retagged s r).tag))
emptied_are_those s r = emptied_are s r
