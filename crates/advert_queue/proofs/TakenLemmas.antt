-- What is pending is what is news, and what becomes of it when some is told.
use Rattle.std.proofs.Common.{◌≡◌, ℕ, ◌≤◌, Bool, true, false, not, List, [], ◌∷◌, ◌++◌, map, take, drop, length, sym, ap, subst, ◌∙◌, refl, arith, inl, inr}
use Rattle.std.specs.Prelude.{Option, Some, None, IfSome, is_some, unwrap_or}
use Rattle.std.specs.FinMap.{get, keys, contains_key-keys}
use Rattle.std.specs.FinMap.Entries.{find, is_sorted, is_some-find}
use Rattle.std.proofs.lemmas.Bool.{false_from_ne_true}
use Rattle.std.proofs.lemmas.List.{length-map, take-append-drop, take-map, take_all, take_min}
use Rattle.events.specs.Pending.{same_entry, with_all_news, with_news}
use Rattle.events.specs.declared.Entry.{Entry}
use Rattle.net_types.proofs.OrderLemmas.{prefix_tie, prefixes_total}
use Rattle.net_types.proofs.OrderedLemmas.{any_member, member_any, ordered_rises, ordered_same}
use Rattle.net_types.proofs.RisingLemmas.{before, filter-IsRising, filter-Member, Member-filter}
use Rattle.net_types.proofs.SetLemmas.{Member-append_left, Member-append_right, map-map}
use Rattle.net_types.specs.Attributes.{same_option}
use Rattle.net_types.specs.Keys.{prefix_cmp}
use Rattle.net_types.specs.Maps.{ordered}
use Rattle.net_types.specs.Sets.{Member}
use Rattle.net_types.specs.declared.address.Ip.{Ip}
use Rattle.net_types.specs.declared.prefix.Prefix.{Prefix}
use Rattle.advert_queue.proofs.ChangedMaps.{Told, changed-append, entry_test, get_change, get_changed}
use Rattle.advert_queue.proofs.EntryLists.{found_itself}
use Rattle.advert_queue.proofs.RisingEntries.{keys_rise, rising_alike}
use Rattle.advert_queue.specs.Advertised.{first_pending, present_at}
use Rattle.advert_queue.specs.Changes.{AreNews, AreSmall, Change, changed, limited, message_of}
use Rattle.advert_queue.specs.Taken.{first_of, news_of, told_then}
use Rattle.advert_queue.specs.Telling.{advert_with, adverts, is_pending, pending}
use Rattle.net_types.proofs.FindLemmas.{Member-take}

-- the prefix of a change
abbrev pub place : Change → Prefix
place c = c.0

listed : (m : Told) (p : Prefix) → is_some (get m p) ≡ true → Member p (keys m)
listed m p there = any_member prefix_cmp prefixes_total prefix_tie p (keys m) (sym (contains_key-keys m p) ∙ there)

-- the first of a list, where at most so many are taken
first_taken : {A : Type 0} (limit : Option ℕ) (xs : List A) → first_of limit xs ≡ take (limited limit (length xs)) xs
first_taken None xs = sym (take_all (length xs) xs (omega arith))
first_taken (Some count) xs = sym (take_min count xs)

-- no more are taken than there are
pub limited-le : (limit : Option ℕ) (n : ℕ) → limited limit n ≤ n
limited-le None n = omega arith
limited-le (Some count) n = omega arith

module _ (told : Told) (cs : List Change) (sorted : is_sorted prefix_cmp cs ≡ true) (news : AreNews told cs) where
  abbrev present : Told
  present = changed told cs

  abbrev differs : Prefix → Bool
  differs p = is_pending told present p

  abbrev known : List Prefix
  known = keys told ++ keys present

  unchanged : (p : Prefix) → find prefix_cmp p cs ≡ None → get present p ≡ get told p
  unchanged p none = get_changed told cs p sorted ∙ ap (λ o. unwrap_or o (get told p)) none

  at_place : (p : Prefix) → is_some (find prefix_cmp p cs) ≡ true → Member p (map place cs)
  at_place p there = any_member prefix_cmp prefixes_total prefix_tie p (map place cs) (sym (is_some-find prefix_cmp p cs) ∙ there)

  onto : (p : Prefix) → Member p (pending told present) → Member p (map place cs)
  onto p m =
      let kept = filter-Member differs (ordered prefix_cmp known) p m in
      by (find prefix_cmp p cs) refl kept.passes
    where
      by : (o : Option (Option Entry)) → find prefix_cmp p cs ≡ o → differs p ≡ true → Member p (map place cs)
      by None none passes =
          let same : same_option same_entry (get told p) (get present p) ≡ true = (entry_test (get told p) (get present p)).1 (sym (unchanged p none)) in
          let both : not true ≡ true = ap not (sym same) ∙ passes in
          absurd (cc)
      by (Some now) is passes = at_place p (ap is_some is)

  is_known : (p : Prefix) (now : Option Entry) → find prefix_cmp p cs ≡ Some now → Member p known
  is_known p now is = by (get told p) now refl is
    where
      by : (o now : Option Entry) → get told p ≡ o → find prefix_cmp p cs ≡ Some now → Member p known
      by (Some e) now was is = Member-append_left (keys told) (keys present) p (listed told p (ap is_some was))
      by None (Some e) was is = Member-append_right (keys told) (keys present) p (listed present p (ap is_some (get_change told cs p (Some e) sorted is)))
      by None None was is = absurd (news p None is was)

  differs_at : (p : Prefix) (now : Option Entry) → find prefix_cmp p cs ≡ Some now → differs p ≡ true
  differs_at p now is =
      ap not (false_from_ne_true (same_option same_entry (get told p) (get present p)) (λ same.
      news p now is ((entry_test (get told p) (get present p)).0 same ∙ get_change told cs p now sorted is)))

  -- something is pending where there is news
  pub found_differs : (p : Prefix) → is_some (find prefix_cmp p cs) ≡ is_pending told present p
  found_differs p = by (find prefix_cmp p cs) refl
    where
      by : (o : Option (Option Entry)) → find prefix_cmp p cs ≡ o → is_some o ≡ differs p
      by None none = ap not (sym ((entry_test (get told p) (get present p)).1 (sym (unchanged p none))))
      by (Some now) is = sym (differs_at p now is)

  back : (p : Prefix) → Member p (map place cs) → Member p (pending told present)
  back p m = by (find prefix_cmp p cs) refl (is_some-find prefix_cmp p cs ∙ member_any prefix_cmp prefixes_total prefix_tie p (map place cs) m)
    where
      by : (o : Option (Option Entry)) → find prefix_cmp p cs ≡ o → is_some (find prefix_cmp p cs) ≡ true → Member p (pending told present)
      by None none there = let both : false ≡ true = sym (ap is_some none) ∙ there in absurd (cc)
      by (Some now) is there =
          Member-filter differs (ordered prefix_cmp known) p ((ordered_same prefix_cmp prefixes_total prefix_tie known).back p (is_known p now is)) (differs_at p now is)

  -- the pending prefixes are those of the news
  pub pending_news : pending told present ≡ map place cs
  pending_news =
      rising_alike prefix_cmp prefixes_total prefix_tie (pending told present) (map place cs)
      (filter-IsRising (before prefix_cmp) differs (ordered prefix_cmp known) (ordered_rises prefix_cmp prefixes_total prefix_tie known))
      (keys_rise prefix_cmp prefixes_total cs sorted)
      (record { onto = onto; back = back })

  -- what is present at a change is the change
  pub at_change : (c : Change) → Member c cs → get present c.0 ≡ c.1
  at_change c m = get_change told cs c.0 c.1 sorted (found_itself prefix_cmp prefixes_total cs c sorted m)

  same_each : (ds : List Change) → ((c : Change) → Member c ds → get present c.0 ≡ c.1) → map (present_at present) (map place ds) ≡ ds
  same_each [] at = refl
  same_each (d ∷ ds) at = (λ i. let c : Change = (d.0, at d (inl refl) i) in c ∷ same_each ds (λ c m. at c (inr m)) i)

  all_pending : map (present_at present) (pending told present) ≡ cs
  all_pending = ap (map (present_at present)) pending_news ∙ same_each cs at_change

  pub first_are : (count : ℕ) → first_pending count told present ≡ take count cs
  first_are count = sym (take-map (present_at present) count (pending told present)) ∙ ap (take count) all_pending

  length_pending : length (pending told present) ≡ length cs
  length_pending = ap length pending_news ∙ length-map cs place

  -- so it is with a limit
  news_are : (limit : Option ℕ) → map (present_at present) (news_of limit told present) ≡ take (limited limit (length cs)) cs
  news_are limit =
      ap (map (present_at present)) (first_taken limit (pending told present) ∙ ap (λ n. take (limited limit n) (pending told present)) length_pending)
      ∙ first_are (limited limit (length cs))

  -- the messages of what is taken are those of the first changes
  pub messages_are : (base : Ip) (limit : Option ℕ) → map (message_of base) (take (limited limit (length cs)) cs) ≡ adverts base present (news_of limit told present)
  messages_are base limit =
      ap (map (message_of base)) (sym (news_are limit))
      ∙ map-map (message_of base) (present_at present) (λ p. advert_with base p (get present p)) (λ p. refl) (news_of limit told present)

  told_each : (m : Told) (ds : List Change) → ((c : Change) → Member c ds → get present c.0 ≡ c.1) → with_all_news present m (map place ds) ≡ changed m ds
  told_each m [] at = refl
  told_each m (d ∷ ds) at =
      ap (λ o. with_all_news present (with_news m d.0 o) (map place ds)) (at d (inl refl)) ∙ told_each (with_news m d.0 d.1) ds (λ c k. at c (inr k))

  -- what was told then is what was told, with the first changes
  pub told_are : (limit : Option ℕ) → told_then limit told present ≡ changed told (take (limited limit (length cs)) cs)
  told_are None = ap (changed told) (sym (take_all (length cs) cs (omega arith)))
  told_are (Some count) =
      ap (λ ps. with_all_news present told (take count ps)) pending_news
      ∙ ap (with_all_news present told) (take-map place count cs)
      ∙ told_each told (take count cs) (λ c m. at_change c (Member-take count cs c m))
      ∙ ap (changed told) (sym (take_min count cs))

  -- what is present stays where some of it is told
  pub present_stays : (count : ℕ) → changed (changed told (take count cs)) (drop count cs) ≡ present
  present_stays count = sym (changed-append told (take count cs) (drop count cs)) ∙ ap (changed told) (take-append-drop count cs)

  -- no news has a tag above 65536 where nothing that is present has
  pub small_news : ((p : Prefix) → IfSome (get present p) (λ (e : Entry). e.tag.0 ≤ 65536)) → AreSmall cs
  small_news small c m = subst (λ o. IfSome o (λ (e : Entry). e.tag.0 ≤ 65536)) (at_change c m) (small c.0)
