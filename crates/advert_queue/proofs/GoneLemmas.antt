-- The tags that go with what is told anew are those that the changed prefixes were told and that are in use nowhere else.
use Rattle.std.proofs.Common.{◌≡◌, ℕ, zero, suc, ◌+◌, ◌≤◌, ◌<◌, ◌^◌, Bool, true, false, cond, ◌&&◌, ◌||◌, not, List, [], ◌∷◌, ◌++◌, map, filter, take, length, sym, ap, ◌∙◌, refl, arith, inl, inr}
use Rattle.std.specs.Prelude.{Option, Some, None, is_some, nat_eq}
use Rattle.std.specs.FinMap.{get}
use Rattle.std.specs.FinMap.Entries.{find, is_sorted, is_some-find, below_all}
use Rattle.std.specs.List.{list_any}
use Rattle.std.specs.Ordering.{eq_by_cmp}
use Rattle.std.proofs.lemmas.Bool.{and_from, and_parts, eq-eqb, eqb-true, false_from_ne_true}
use Rattle.events.specs.Pending.{with_news}
use Rattle.events.specs.Tags.{tells}
use Rattle.events.specs.declared.Entry.{Entry}
use Rattle.net_types.proofs.OrderLemmas.{prefixes_total, tags_total}
use Rattle.net_types.proofs.OrderedLemmas.{any_member, member_any, ordered_rises}
use Rattle.net_types.proofs.RisingLemmas.{before, filter-IsRising, filter-Member, Member-filter}
use Rattle.net_types.proofs.TieLemmas.{tag_tie, tie_Equal}
use Rattle.net_types.specs.Keys.{prefix_cmp, tag_cmp}
use Rattle.net_types.specs.Sets.{Member}
use Rattle.net_types.specs.declared.address.Tag.{Tag}
use Rattle.net_types.specs.declared.prefix.Prefix.{Prefix}
use Rattle.advert_queue.proofs.ChangedMaps.{Told}
use Rattle.advert_queue.proofs.CountLemmas.{has_tag-le, kept_found, still_right, told_number, told_uses, untold_uses, uses_one, uses_with}
use Rattle.advert_queue.proofs.EntryLists.{found_itself, map-filter}
use Rattle.advert_queue.proofs.PendingLemmas.{told_among}
use Rattle.advert_queue.proofs.RisingEntries.{find_below, keys_rise, rising_alike}
use Rattle.advert_queue.proofs.TakenLemmas.{at_change}
use Rattle.advert_queue.specs.Changes.{AreNews, Change, changed, tag_in}
use Rattle.advert_queue.specs.Counts.{AreCounts, IsRecounted, by_side, counted, entry_tag, has_tag, is_told_tag, number, uses, uses_in}
use Rattle.advert_queue.specs.declared.counts.Side.{Side}
use Rattle.advert_queue.specs.declared.counts.Side.TheVariants as sides
use Rattle.advert_queue.specs.declared.counts.Uses.{Uses}
use Rattle.advert_queue.specs.Leaving.{is_gone, left, none_present}
use Rattle.advert_queue.specs.Advertised.{is_told}
use Rattle.advert_queue.specs.Taken.{gone_tags, untold}
use Rattle.advert_queue.specs.Telling.{tags_of}
use Rattle.net_types.proofs.FindLemmas.{Member-take}
use Rattle.events.proofs.NewsLemmas.{get-with_news}

-- ---- the tags that are told

tag_found : (cs : List (Tag × Uses)) (t : Tag) → is_some (find tag_cmp t cs) ≡ list_any (eq_by_cmp tag_cmp t) (map entry_tag cs)
tag_found cs t = is_some-find tag_cmp t cs

numbered : (side : Side) (cs : List (Tag × Uses)) (t : Tag) → 0 < counted side cs t → Member t (map entry_tag cs)
numbered side cs t some = any_member tag_cmp tags_total tag_tie t (map entry_tag cs) (sym (tag_found cs t) ∙ kept_found side cs t some)

told_member : (m : Told) (t : Tag) → tells m t ≡ true → Member t (tags_of m)
told_member m t told = any_member tag_cmp tags_total tag_tie t (tags_of m) (told_among m t ∙ told)

member_told : (m : Told) (t : Tag) → Member t (tags_of m) → tells m t ≡ true
member_told m t at = sym (told_among m t) ∙ member_any tag_cmp tags_total tag_tie t (tags_of m) at

-- the tags with a number of what was told are those that were told
module _ (cs : List (Tag × Uses)) (m n : Told) (right : AreCounts cs (by_side (uses m) (uses n))) where
  abbrev is_counted : Tag → Bool
  is_counted t = not (nat_eq (counted sides.Told cs t) 0)

  counted_as : (t : Tag) → is_counted t ≡ tells m t
  counted_as t = told_number cs sides.Told m t (right.counts sides.Told t)

  counted_list : map entry_tag (filter is_told_tag cs) ≡ filter is_counted (map entry_tag cs)
  counted_list = map-filter entry_tag is_told_tag is_counted cs (λ e at.
      ap (λ o. not (nat_eq (number sides.Told (uses_in o)) 0)) (sym (found_itself tag_cmp tags_total cs e right.rising at)))

  onto_told : (t : Tag) → Member t (filter is_counted (map entry_tag cs)) → Member t (tags_of m)
  onto_told t at = told_member m t (sym (counted_as t) ∙ (filter-Member is_counted (map entry_tag cs) t at).passes)

  back_told : (t : Tag) → Member t (tags_of m) → Member t (filter is_counted (map entry_tag cs))
  back_told t at =
      let told = member_told m t at in
      let some = told_uses m t told in
      let same : counted sides.Told cs t ≡ uses m t = right.counts sides.Told t in
      Member-filter is_counted (map entry_tag cs) t (numbered sides.Told cs t (omega (arith, some, same))) (counted_as t ∙ told)

  pub counted_tags : map entry_tag (filter is_told_tag cs) ≡ tags_of m
  counted_tags = counted_list ∙ rising_alike tag_cmp tags_total tag_tie (filter is_counted (map entry_tag cs)) (tags_of m)
      (filter-IsRising (before tag_cmp) is_counted (map entry_tag cs) (keys_rise tag_cmp tags_total cs right.rising)) (ordered_rises tag_cmp tags_total tag_tie _)
      (record { onto = onto_told; back = back_told })

-- ---- the uses that go and that come

-- how many changes have the tag
abbrev joined : List Change → Tag → ℕ
joined [] t = 0
joined (c ∷ cs) t = has_tag t (tag_in c.1) + joined cs t

-- all these prefixes are other ones
abbrev AreApart : Prefix → List Change → Type 0
AreApart p cs = (c : Change) → Member c cs → eq_by_cmp prefix_cmp c.0 p ≡ false

left_same : (m : Told) (p : Prefix) (o : Option Entry) (cs : List Change) (t : Tag) → AreApart p cs → left (with_news m p o) cs t ≡ left m cs t
left_same m p o [] t apart = refl
left_same m p o (c ∷ cs) t apart =
    let here : has_tag t (tag_in (get (with_news m p o) c.0)) ≡ has_tag t (tag_in (get m c.0)) = ap (λ e. has_tag t (tag_in e)) (get-with_news m p o c.0 ∙ ap (λ b. cond b o (get m c.0)) (apart c (inl refl))) in
    let rest = left_same m p o cs t (λ d k. apart d (inr k)) in
    omega (arith, here, rest)

later_apart : (c : Change) (cs : List Change) → is_sorted prefix_cmp (c ∷ cs) ≡ true → AreApart c.0 cs
later_apart c cs sorted d m =
    false_from_ne_true (eq_by_cmp prefix_cmp d.0 c.0) (λ tie.
    let parts = and_parts (below_all prefix_cmp c.0 cs) (is_sorted prefix_cmp cs) sorted in
    let none = find_below prefix_cmp prefixes_total d.0 c.0 cs (tie_Equal _ tie) parts.0 in
    let some = found_itself prefix_cmp prefixes_total cs d parts.1 m in
    let both : None ≡ Some d.1 = sym none ∙ some in cc)

-- what is told then is used as often as what was told, less what goes, and what comes
uses_changed : (m : Told) (cs : List Change) (t : Tag) → is_sorted prefix_cmp cs ≡ true → uses (changed m cs) t + left m cs t ≡ uses m t + joined cs t
uses_changed m [] t sorted = refl
uses_changed m (c ∷ cs) t sorted =
    let parts = and_parts (below_all prefix_cmp c.0 cs) (is_sorted prefix_cmp cs) sorted in
    let rest = uses_changed (with_news m c.0 c.1) cs t parts.1 in
    let same = left_same m c.0 c.1 cs t (later_apart c cs sorted) in
    let one = uses_with m c.0 c.1 t in
    omega (arith, rest, same, one)

none_joined : (cs : List Change) (t : Tag) → ((c : Change) → Member c cs → has_tag t (tag_in c.1) ≡ 0) → joined cs t ≡ 0
none_joined [] t none = refl
none_joined (c ∷ cs) t none =
    let here = none c (inl refl) in
    let rest = none_joined cs t (λ d m. none d (inr m)) in
    omega (arith, here, rest)

-- ---- fronts of rising entries

front_below : (p : Prefix) (n : ℕ) (cs : List Change) → below_all prefix_cmp p cs ≡ true → below_all prefix_cmp p (take n cs) ≡ true
front_below p zero cs below = refl
front_below p (suc n) [] below = refl
front_below p (suc n) (c ∷ cs) below =
    let parts = and_parts _ (below_all prefix_cmp p cs) below in
    and_from _ (below_all prefix_cmp p (take n cs)) parts.0 (front_below p n cs parts.1)

pub front_sorted : (n : ℕ) (cs : List Change) → is_sorted prefix_cmp cs ≡ true → is_sorted prefix_cmp (take n cs) ≡ true
front_sorted zero cs sorted = refl
front_sorted (suc n) [] sorted = refl
front_sorted (suc n) (c ∷ cs) sorted =
    let parts = and_parts (below_all prefix_cmp c.0 cs) (is_sorted prefix_cmp cs) sorted in
    and_from _ (is_sorted prefix_cmp (take n cs)) (front_below c.0 n cs parts.0) (front_sorted n cs parts.1)

-- ---- the tags that go

module _ (told : Told) (cs : List Change) (sorted : is_sorted prefix_cmp cs ≡ true) (news : AreNews told cs) (count : ℕ) (ls ts : List (Tag × Uses))
    (leaving : AreCounts ls (by_side (left told (take count cs)) none_present)) (all : AreCounts ts (by_side (uses told) (uses (changed told cs)))) where
  abbrev present : Told
  present = changed told cs

  abbrev then : Told
  then = changed told (take count cs)

  -- a tag that is present nowhere comes with no change
  none_comes : (t : Tag) → uses present t ≡ 0 → joined (take count cs) t ≡ 0
  none_comes t none = none_joined (take count cs) t (λ c m.
      let one = uses_one present c.0 t in
      let same : has_tag t (tag_in (get present c.0)) ≡ has_tag t (tag_in c.1) = ap (λ o. has_tag t (tag_in o)) (at_change told cs sorted news c (Member-take count cs c m)) in
      omega (arith, one, same, none))

  then_uses : (t : Tag) → uses present t ≡ 0 → uses then t + left told (take count cs) t ≡ uses told t
  then_uses t none =
      let sum = uses_changed told (take count cs) t (front_sorted count cs sorted) in
      let comes = none_comes t none in
      omega (arith, sum, comes)

  abbrev goes : Tag → Bool
  goes t = nat_eq (counted sides.Told ts t) (counted sides.Told ls t) && nat_eq (counted sides.Present ts t) 0

  listed : map entry_tag (filter (is_gone ts) ls) ≡ filter goes (map entry_tag ls)
  listed = map-filter entry_tag (is_gone ts) goes ls (λ e m.
      ap (λ o. nat_eq (counted sides.Told ts e.0) (number sides.Told (uses_in o)) && nat_eq (counted sides.Present ts e.0) 0) (sym (found_itself tag_cmp tags_total ls e leaving.rising m)))

  abbrev not_told : List Told → Tag → Bool
  not_told ms t = not (is_told ms t)

  not_there : (m : Told) (t : Tag) → uses m t ≡ 0 → not_told (m ∷ []) t ≡ true
  not_there m t none = ap not (either (tells m t) refl)
    where
      either : (b : Bool) → tells m t ≡ b → (b || false) ≡ false
      either true is = let some = told_uses m t is in absurd (omega (arith, some, none))
      either false is = refl

  no_use : (m : Told) (t : Tag) → not_told (m ∷ []) t ≡ true → uses m t ≡ 0
  no_use m t free = either (tells m t) refl free
    where
      either : (b : Bool) → tells m t ≡ b → not (b || false) ≡ true → uses m t ≡ 0
      either true is at = absurd (cc)
      either false is at = untold_uses m t is

  leaves : (t : Tag) → Member t (map entry_tag ls) → 0 < left told (take count cs) t
  leaves t m = either (find tag_cmp t ls) refl (tag_found ls t ∙ member_any tag_cmp tags_total tag_tie t (map entry_tag ls) m)
    where
      either : (o : Option Uses) → find tag_cmp t ls ≡ o → is_some (find tag_cmp t ls) ≡ true → 0 < left told (take count cs) t
      either None none some = let both : false ≡ true = sym (ap is_some none) ∙ some in absurd (cc)
      either (Some u) is some =
          let used : 0 < u.told + u.present = leaving.used t u is in
          let a : counted sides.Told ls t ≡ u.told = ap (λ o. number sides.Told (uses_in o)) is in
          let b : counted sides.Present ls t ≡ u.present = ap (λ o. number sides.Present (uses_in o)) is in
          let c : counted sides.Told ls t ≡ left told (take count cs) t = leaving.counts sides.Told t in
          let d : counted sides.Present ls t ≡ 0 = leaving.counts sides.Present t in
          omega (arith, used, a, b, c, d)

  is_told_where : (t : Tag) → 0 < uses told t → tells told t ≡ true
  is_told_where t some = either (tells told t) refl
    where
      either : (b : Bool) → tells told t ≡ b → b ≡ true
      either true is = refl
      either false is = let none = untold_uses told t is in absurd (omega (arith, none, some))

  onto : (t : Tag) → Member t (filter goes (map entry_tag ls)) → Member t (gone_tags told then present)
  onto t m =
      let kept = filter-Member goes (map entry_tag ls) t m in
      let parts = and_parts (nat_eq (counted sides.Told ts t) (counted sides.Told ls t)) (nat_eq (counted sides.Present ts t) 0) kept.passes in
      let same = eqb-true (counted sides.Told ts t) (counted sides.Told ls t) parts.0 in
      let none = eqb-true (counted sides.Present ts t) 0 parts.1 in
      let some = leaves t kept.stands in
      let a : counted sides.Told ls t ≡ left told (take count cs) t = leaving.counts sides.Told t in
      let b : counted sides.Told ts t ≡ uses told t = all.counts sides.Told t in
      let c : counted sides.Present ts t ≡ uses present t = all.counts sides.Present t in
      let absent : uses present t ≡ 0 = omega (arith, none, c) in
      let sum = then_uses t absent in
      let gone : uses then t ≡ 0 = omega (arith, sum, same, a, b) in
      let told_some : 0 < uses told t = omega (arith, some, same, a, b) in
      Member-filter (not_told (then ∷ [])) (untold (present ∷ []) (tags_of told)) t
      (Member-filter (not_told (present ∷ [])) (tags_of told) t (told_member told t (is_told_where t told_some)) (not_there present t absent))
      (not_there then t gone)

  back : (t : Tag) → Member t (gone_tags told then present) → Member t (filter goes (map entry_tag ls))
  back t m =
      let outer = filter-Member (not_told (then ∷ [])) (untold (present ∷ []) (tags_of told)) t m in
      let inner = filter-Member (not_told (present ∷ [])) (tags_of told) t outer.stands in
      let gone = no_use then t outer.passes in
      let absent = no_use present t inner.passes in
      let some = told_uses told t (member_told told t inner.stands) in
      let sum = then_uses t absent in
      let a : counted sides.Told ls t ≡ left told (take count cs) t = leaving.counts sides.Told t in
      let b : counted sides.Told ts t ≡ uses told t = all.counts sides.Told t in
      let c : counted sides.Present ts t ≡ uses present t = all.counts sides.Present t in
      let number : 0 < counted sides.Told ls t = omega (arith, sum, gone, some, a) in
      let same : counted sides.Told ts t ≡ counted sides.Told ls t = omega (arith, sum, gone, a, b) in
      let none : counted sides.Present ts t ≡ 0 = omega (arith, absent, c) in
      Member-filter goes (map entry_tag ls) t (numbered sides.Told ls t number)
      (and_from (nat_eq (counted sides.Told ts t) (counted sides.Told ls t)) (nat_eq (counted sides.Present ts t) 0) (eq-eqb (counted sides.Told ts t) (counted sides.Told ls t) same) (eq-eqb (counted sides.Present ts t) 0 none))

  pub gone_are : map entry_tag (filter (is_gone ts) ls) ≡ gone_tags told then present
  gone_are = listed ∙ rising_alike tag_cmp tags_total tag_tie (filter goes (map entry_tag ls)) (gone_tags told then present)
      (filter-IsRising (before tag_cmp) goes (map entry_tag ls) (keys_rise tag_cmp tags_total ls leaving.rising))
      (filter-IsRising (before tag_cmp) (not_told (then ∷ [])) (untold (present ∷ []) (tags_of told))
      (filter-IsRising (before tag_cmp) (not_told (present ∷ [])) (tags_of told) (ordered_rises tag_cmp tags_total tag_tie _)))
      (record { onto = onto; back = back })

-- ---- the tags so far

left_last : (m : Told) (cs : List Change) (c : Change) (t : Tag) → left m (cs ++ c ∷ []) t ≡ left m cs t + has_tag t (tag_in (get m c.0))
left_last m [] c t = omega arith
left_last m (d ∷ ds) c t = let rest = left_last m ds c t in omega (arith, rest)

-- one prefix more
pub leaving_next : (m : Told) (front : List Change) (c : Change) (cs ds : List (Tag × Uses)) → AreCounts cs (by_side (left m front) none_present) → IsRecounted sides.Told cs ds None (tag_in (get m c.0))
    → AreCounts ds (by_side (left m (front ++ c ∷ [])) none_present)
leaving_next m front c cs ds right step =
    still_right sides.Told cs ds None (tag_in (get m c.0)) (by_side (left m front) none_present) (by_side (left m (front ++ c ∷ [])) none_present) right step (λ t. let last = left_last m front c t in omega (arith, last)) (λ t. refl)

left-le : (m : Told) (cs : List Change) (t : Tag) → left m cs t ≤ length cs
left-le m [] t = omega arith
left-le m (c ∷ cs) t = let one = has_tag-le t (tag_in (get m c.0)) in let rest = left-le m cs t in omega (arith, one, rest)

-- a tag more can be counted
pub leaving_small : (m : Told) (front : List Change) (cs : List (Tag × Uses)) → AreCounts cs (by_side (left m front) none_present) → length front + 1 < 2 ^ 64 → (t : Tag) → counted sides.Told cs t + 1 < 2 ^ 64
leaving_small m front cs right few t =
    let number : counted sides.Told cs t ≡ left m front t = right.counts sides.Told t in
    let most = left-le m front t in
    omega (arith, number, most, few)
