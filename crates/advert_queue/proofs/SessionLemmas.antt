-- What is kept of a participant stays right through an offer, and where some of what is news is told.
use Rattle.std.proofs.Common.{◌≡◌, ℕ, ◌+◌, ◌-◌, ◌≤◌, ◌<◌, ◌^◌, true, cond, List, [], ◌∷◌, length, sym, ap, subst, ◌∙◌, refl, arith}
use Rattle.std.specs.Prelude.{Option, Some, None, IfSome, is_some}
use Rattle.std.specs.FinMap.{empty, entries, get}
use Rattle.std.specs.FinMap.Entries.{find, is_sorted, below_all}
use Rattle.std.proofs.lemmas.Bool.{and_parts}
use Rattle.events.specs.Pending.{with_news}
use Rattle.events.specs.declared.Entry.{Entry}
use Rattle.net_types.proofs.OrderLemmas.{prefixes_total}
use Rattle.net_types.proofs.TieLemmas.{ties_itself}
use Rattle.net_types.proofs.ValueLemmas.{no_entries}
use Rattle.net_types.specs.Keys.{prefix_cmp, tag_cmp}
use Rattle.net_types.specs.declared.address.Tag.{Tag}
use Rattle.net_types.specs.declared.prefix.Prefix.{Prefix}
use Rattle.ordered_map.specs.Held.{Held}
use Rattle.prefix_map.specs.Held as prefixes
use Rattle.tag_table.specs.Held as table
use Rattle.advert_queue.proofs.ChangedMaps.{Told, get_change, news_left}
use Rattle.advert_queue.proofs.CountLemmas.{is_tag-itself, kept_some, length_changed, length_with, none_counted, still_right, uses-le, uses_one, uses_with}
use Rattle.advert_queue.proofs.TakenLemmas.{found_differs}
use Rattle.advert_queue.specs.Advertised.{place_cost}
use Rattle.advert_queue.specs.Changes.{AreNews, Change, changed, tag_in}
use Rattle.advert_queue.specs.Counts.{IsRecounted, by_side, counted, has_tag, is_tag, uses}
use Rattle.advert_queue.specs.declared.counts.Side.{Side}
use Rattle.advert_queue.specs.declared.counts.Side.TheVariants as sides
use Rattle.advert_queue.specs.declared.counts.Side.TheVariants.{Present}
use Rattle.advert_queue.specs.declared.counts.Uses.{Uses}
use Rattle.advert_queue.specs.Kept.{IsKept, IsTellable}

abbrev pub Tags : Type 0
Tags = table.Held Uses

abbrev pub News : Type 0
News = Held Prefix (Option Entry)

-- the tag of what stands at a prefix is in use
pub in_use : (side : Side) (cs : List (Tag × Uses)) (m : Told) (k : Prefix) (before : Option Tag) → ((t : Tag) → counted side cs t ≡ uses m t) → before ≡ tag_in (get m k) → IfSome before (λ (tag : Tag). 0 < counted side cs tag)
in_use side cs m k None right is = tt
in_use side cs m k (Some t) right is =
    let one = uses_one m k t in
    let here : has_tag t (tag_in (get m k)) ≡ is_tag t t = ap (has_tag t) (sym is) in
    let itself = is_tag-itself t in
    let number = right t in
    omega (arith, one, here, itself, number)

-- it needs no room
pub no_room : (side : Side) (cs : List (Tag × Uses)) (room : ℕ) (after : Option Tag) → IfSome after (λ (tag : Tag). 0 < counted side cs tag) → IfSome after (λ (tag : Tag). find tag_cmp tag cs ≡ None → tag.0 < room)
no_room side cs room None some = tt
no_room side cs room (Some t) some = λ none. absurd (kept_some side cs t some none)

-- one use more of a tag can be counted
pub can_rise : (side : Side) (cs : List (Tag × Uses)) (m : Told) (after : Option Tag) → ((t : Tag) → counted side cs t ≡ uses m t) → length (entries m) + 1 < 2 ^ 64 → IfSome after (λ (tag : Tag). counted side cs tag + 1 < 2 ^ 64)
can_rise side cs m None right few = tt
can_rise side cs m (Some t) right few = let most = uses-le m t in let number = right t in omega (arith, most, number)

-- more is present than was told by no more than there is news
pub few_present : (told : Told) (cs : List Change) (places : ℕ) → length (entries told) + length cs + places + 1 < 2 ^ 64 → length (entries (changed told cs)) + 1 < 2 ^ 64
few_present told cs places fits = let most = length_changed told cs in omega (arith, most)

-- ---- what an offer needs

-- a place where there is no news of the prefix
pub place_found : (told : Told) (cs : List Change) (p : Prefix) → is_sorted prefix_cmp cs ≡ true → AreNews told cs → place_cost told (changed told cs) p ≡ cond (is_some (find prefix_cmp p cs)) 0 1
place_found told cs p sorted news = ap (λ b. let n : ℕ = cond b 0 1 in n) (sym (found_differs told cs sorted news p))

pub place_none : (told : Told) (cs : List Change) (p : Prefix) → is_sorted prefix_cmp cs ≡ true → AreNews told cs → find prefix_cmp p cs ≡ None → place_cost told (changed told cs) p ≡ 1
place_none told cs p sorted news none = place_found told cs p sorted news ∙ ap (λ o. let n : ℕ = cond (is_some o) 0 1 in n) none

-- the room of its tag
pub tag_room : (cs : List (Tag × Uses)) (room : ℕ) (entry : Option Entry) (tag : Option Tag) → tag ≡ tag_in entry → IfSome entry (λ (e : Entry). e.tag.0 < room) → IfSome tag (λ (t : Tag). find tag_cmp t cs ≡ None → t.0 < room)
tag_room cs room entry tag is below = subst (λ o. IfSome o (λ (t : Tag). find tag_cmp t cs ≡ None → t.0 < room)) (sym is) (by entry below)
  where
    by : (entry : Option Entry) → IfSome entry (λ (e : Entry). e.tag.0 < room) → IfSome (tag_in entry) (λ (t : Tag). find tag_cmp t cs ≡ None → t.0 < room)
    by None below = tt
    by (Some e) below = λ none. below

-- ---- an offer

module _ (told : prefixes.Held Entry) (news later : News) (counts then : Tags) (places places_left : ℕ) (k : Prefix) (entry : Option Entry) (before after : Option Tag) where
  pub offered_kept : IsKept told news counts places → places ≡ places_left + (length later.items - length news.items)
      → is_sorted prefix_cmp later.items ≡ true → AreNews told.map later.items → changed told.map later.items ≡ with_news (changed told.map news.items) k entry
      → news.room ≤ later.room + (length later.items - length news.items)
      → before ≡ tag_in (get (changed told.map news.items) k) → after ≡ tag_in entry
      → IsRecounted Present counts.items then.items before after
      → IsKept told later then places_left
  offered_kept kept places_less rising differ present news_room was is step = record {
    tellable = record {
      rising = rising;
      differ = differ;
      counts =
          still_right Present counts.items then.items before after (by_side (uses told.map) (uses (changed told.map news.items))) (by_side (uses told.map) (uses (changed told.map later.items))) kept.tellable.counts step (λ t.
          (λ i. uses (present i) t + has_tag t (was i)) ∙ uses_with (changed told.map news.items) k entry t
          ∙ ap (λ o. uses (changed told.map news.items) t + has_tag t o) (sym is)) (λ t. refl);
      told_room = (let old = kept.tellable.told_room in omega (arith, old, places_less));
      fits = (let old = kept.tellable.fits in omega (arith, old, places_less));
    };
    news_room = (let old = kept.news_room in omega (arith, old, news_room, places_less));
  }

-- ---- the first is told

-- what is present where the first change stands is that change
pub first_present : (told : Told) (c : Change) (cs : List Change) → is_sorted prefix_cmp (c ∷ cs) ≡ true → get (changed told (c ∷ cs)) c.0 ≡ c.1
first_present told c cs sorted = get_change told (c ∷ cs) c.0 c.1 sorted (ap (λ b. cond b (Some c.1) (find prefix_cmp c.0 cs)) (ties_itself prefixes_total c.0))

module _ (told then : prefixes.Held Entry) (news later : News) (counts later_counts : Tags) (more : ℕ) (c : Change) (before after : Option Tag) where
  pub still_present : news.items ≡ c ∷ later.items → then.map ≡ with_news told.map c.0 c.1 → changed then.map later.items ≡ changed told.map news.items
  still_present first is = ap (λ m. changed m later.items) is ∙ sym (ap (changed told.map) first)

  pub told_first : IsTellable told news counts more → news.items ≡ c ∷ later.items
      → then.map ≡ with_news told.map c.0 c.1 → told.room ≤ then.room + 1
      → before ≡ tag_in (get told.map c.0) → after ≡ tag_in c.1
      → IsRecounted sides.Told counts.items later_counts.items before after
      → IsTellable then later later_counts more
  told_first kept first is told_room was now step =
      let sorted : is_sorted prefix_cmp (c ∷ later.items) ≡ true = ap (is_sorted prefix_cmp) (sym first) ∙ kept.rising in
      let parts = and_parts (below_all prefix_cmp c.0 later.items) (is_sorted prefix_cmp later.items) sorted in
      let longer : length news.items ≡ length later.items + 1 = ap length first ∙ omega arith in
      let all : AreNews told.map (c ∷ later.items) = subst (AreNews told.map) first kept.differ in
      record {
        rising = parts.1;
        differ = subst (λ m. AreNews m later.items) (sym is) (news_left told.map c later.items sorted all);
        counts =
            still_right sides.Told counts.items later_counts.items before after (by_side (uses told.map) (uses (changed told.map news.items))) (by_side (uses then.map) (uses (changed then.map later.items))) kept.counts step (λ t.
            (λ i. uses (is i) t + has_tag t (was i)) ∙ uses_with told.map c.0 c.1 t ∙ ap (λ o. uses told.map t + has_tag t o) (sym now))
            (λ t. ap (λ m. uses m t) (still_present first is));
        told_room = (let old = kept.told_room in omega (arith, old, longer, told_room));
        fits = (let old = kept.fits in let one = length_with told.map c.0 c.1 in let len = ap (λ m. length (entries m)) is in omega (arith, old, longer, one, len));
      }

-- where there is room for more, there is for none more
pub none_more : (told : prefixes.Held Entry) (news : News) (counts : Tags) (more : ℕ) → IsTellable told news counts more → IsTellable told news counts 0
none_more told news counts more kept = record {
  rising = kept.rising;
  differ = kept.differ;
  counts = kept.counts;
  told_room = (let old = kept.told_room in omega (arith, old));
  fits = (let old = kept.fits in omega (arith, old));
}

-- ---- some are told

pub taken_kept : (told then : prefixes.Held Entry) (news later : News) (counts later_counts : Tags) (places : ℕ) → IsKept told news counts places
    → IsTellable then later later_counts places → news.room ≤ later.room → IsKept then later later_counts places
taken_kept told then news later counts later_counts places kept tellable news_room = record {
  tellable = tellable;
  news_room = (let old = kept.news_room in omega (arith, old, news_room));
}

-- ---- the beginning

pub none_kept : (told : prefixes.Held Entry) (news : News) (counts : Tags) → told.map ≡ empty → news.items ≡ [] → counts.items ≡ [] → IsKept told news counts 0
none_kept told news counts nothing no_news none =
    let few : length news.items ≡ 0 = ap length no_news in
    let short : length (entries told.map) ≡ 0 = ap (λ (m : Told). length (entries m)) nothing ∙ ap length (no_entries Prefix Entry prefix_cmp) in
    let present : changed told.map news.items ≡ empty = ap (changed told.map) no_news ∙ nothing in
    record {
      tellable = record {
        rising = ap (is_sorted prefix_cmp) no_news;
        differ = λ p now is. (let both : None ≡ Some now = ap (find prefix_cmp p) (sym no_news) ∙ is in absurd (cc));
        counts = none_counted counts.items told.map (changed told.map news.items) none nothing present;
        told_room = omega (arith, few);
        fits = omega (arith, few, short);
      };
      news_room = omega arith;
    }
