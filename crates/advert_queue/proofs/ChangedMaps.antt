-- A map with changes made: what stands at each prefix, and what one change more makes of it.
use Rattle.std.proofs.Common.{◌≡◌, Bool, true, false, cond, List, [], ◌∷◌, ◌++◌, sym, ap, subst, ◌∙◌, refl}
use Rattle.std.specs.Prelude.{Option, Some, None, unwrap_or}
use Rattle.std.specs.Ordering.{eq_by_cmp}
use Rattle.std.specs.FinMap.{FinMap, get, same_map}
use Rattle.std.specs.FinMap.Entries.{find, find-put, put, is_sorted, below_all}
use Rattle.std.proofs.lemmas.Bool.{and_parts}
use Rattle.events.specs.Pending.{same_entry, with_news}
use Rattle.events.specs.declared.Entry.{Entry}
use Rattle.net_types.proofs.EqualLemmas.{IsEqualityTest, option_test}
use Rattle.net_types.proofs.OrderLemmas.{prefixes_total, prefix_tie}
use Rattle.net_types.proofs.PlaceLemmas.{find-without, put_sorted, without_sorted}
use Rattle.net_types.proofs.TieLemmas.{prefix_cmp-IsAntisymmetric, tie_Equal}
use Rattle.net_types.specs.Attributes.{same_option}
use Rattle.net_types.specs.Keys.{prefix_cmp}
use Rattle.net_types.specs.declared.prefix.Prefix.{Prefix}
use Rattle.ordered_map.specs.Entries.{without}
use Rattle.advert_queue.proofs.RisingEntries.{find_below}
use Rattle.advert_queue.specs.Changes.{AreNews, Change, changed, noted}
use Rattle.events.proofs.SameEntries as same_entries
use Rattle.events.proofs.NewsLemmas.{get-with_news}

-- what was told, or is present
abbrev pub Told : Type 0
Told = FinMap prefix_cmp Entry

-- ---- the test of entries decides whether they are equal

pub entry_test : IsEqualityTest (same_option same_entry)
entry_test = option_test same_entry same_entries.entry_test

-- ---- changes

-- a prefix has its change, or else what was told
pub get_changed : (told : Told) (cs : List Change) (q : Prefix) → is_sorted prefix_cmp cs ≡ true → get (changed told cs) q ≡ unwrap_or (find prefix_cmp q cs) (get told q)
get_changed told [] q sorted = refl
get_changed told (c ∷ cs) q sorted =
    let parts = and_parts (below_all prefix_cmp c.0 cs) (is_sorted prefix_cmp cs) sorted in
    let rest = get_changed (with_news told c.0 c.1) cs q parts.1 in
    let here = get-with_news told c.0 c.1 q in
    elim (eq_by_cmp prefix_cmp q c.0) as (λ b. eq_by_cmp prefix_cmp q c.0 ≡ b → get (with_news told c.0 c.1) q ≡ cond b c.1 (get told q) → get (changed (with_news told c.0 c.1) cs) q ≡ unwrap_or (cond b (Some c.1) (find prefix_cmp q cs)) (get told q)) [
      | true ↦ λ tie at. rest ∙ ap (λ o. unwrap_or o (get (with_news told c.0 c.1) q)) (find_below prefix_cmp prefixes_total q c.0 cs (tie_Equal _ tie) parts.0) ∙ at
      | false ↦ λ apart at. rest ∙ ap (unwrap_or (find prefix_cmp q cs)) at
    ] refl here

-- a change is found at its prefix
pub get_change : (told : Told) (cs : List Change) (q : Prefix) (now : Option Entry) → is_sorted prefix_cmp cs ≡ true → find prefix_cmp q cs ≡ Some now → get (changed told cs) q ≡ now
get_change told cs q now sorted is = get_changed told cs q sorted ∙ ap (λ o. unwrap_or o (get told q)) is

pub changed-append : (told : Told) (cs ds : List Change) → changed told (cs ++ ds) ≡ changed (changed told cs) ds
changed-append told [] ds = refl
changed-append told (c ∷ cs) ds = changed-append (with_news told c.0 c.1) cs ds

-- ---- one more, noted

module _ (told : Told) (cs : List Change) (k : Prefix) (entry : Option Entry) (sorted : is_sorted prefix_cmp cs ≡ true) where
  pub changed_put : changed told (put prefix_cmp k entry cs) ≡ with_news (changed told cs) k entry
  changed_put = same_map prefixes_total prefix_cmp-IsAntisymmetric _ _ (λ q.
      get_changed told (put prefix_cmp k entry cs) q (put_sorted prefix_cmp prefixes_total k entry cs sorted)
      ∙ ap (λ o. unwrap_or o (get told q)) (find-put prefix_cmp prefixes_total q k entry cs)
      ∙ by q (eq_by_cmp prefix_cmp q k)
      ∙ ap (cond (eq_by_cmp prefix_cmp q k) entry) (sym (get_changed told cs q sorted))
      ∙ sym (get-with_news (changed told cs) k entry q))
    where
      by : (q : Prefix) (b : Bool) → unwrap_or (cond b (Some entry) (find prefix_cmp q cs)) (get told q) ≡ cond b entry (unwrap_or (find prefix_cmp q cs) (get told q))
      by q true = refl
      by q false = refl

  pub changed_without : get told k ≡ entry → changed told (without prefix_cmp k cs) ≡ with_news (changed told cs) k entry
  changed_without was = same_map prefixes_total prefix_cmp-IsAntisymmetric _ _ (λ q.
      get_changed told (without prefix_cmp k cs) q (without_sorted prefix_cmp k cs sorted)
      ∙ ap (λ o. unwrap_or o (get told q)) (find-without prefix_cmp prefixes_total k q cs)
      ∙ by q (eq_by_cmp prefix_cmp q k) refl
      ∙ ap (cond (eq_by_cmp prefix_cmp q k) entry) (sym (get_changed told cs q sorted))
      ∙ sym (get-with_news (changed told cs) k entry q))
    where
      by : (q : Prefix) (b : Bool) → eq_by_cmp prefix_cmp q k ≡ b → unwrap_or (cond b None (find prefix_cmp q cs)) (get told q) ≡ cond b entry (unwrap_or (find prefix_cmp q cs) (get told q))
      by q true tie = ap (get told) (prefix_tie q k tie) ∙ was
      by q false apart = refl

  pub news_put : AreNews told cs → ¬ get told k ≡ entry → AreNews told (put prefix_cmp k entry cs)
  news_put news other p now is = by (eq_by_cmp prefix_cmp p k) refl (sym (find-put prefix_cmp prefixes_total p k entry cs) ∙ is)
    where
      by : (b : Bool) → eq_by_cmp prefix_cmp p k ≡ b → cond b (Some entry) (find prefix_cmp p cs) ≡ Some now → ¬ get told p ≡ now
      by true tie at same = other (ap (get told) (sym (prefix_tie p k tie)) ∙ same ∙ sym (ap (λ o. unwrap_or o entry) at))
      by false apart at same = news p now at same

  pub news_without : AreNews told cs → AreNews told (without prefix_cmp k cs)
  news_without news p now is = by (eq_by_cmp prefix_cmp p k) (sym (find-without prefix_cmp prefixes_total k p cs) ∙ is)
    where
      by : (b : Bool) → cond b None (find prefix_cmp p cs) ≡ Some now → ¬ get told p ≡ now
      by true at = absurd (cc)
      by false at = news p now at

  pub noted_present : changed told (noted (get told k) k entry cs) ≡ with_news (changed told cs) k entry
  noted_present = by (same_option same_entry (get told k) entry) refl
    where
      by : (b : Bool) → same_option same_entry (get told k) entry ≡ b → changed told (cond b (without prefix_cmp k cs) (put prefix_cmp k entry cs)) ≡ with_news (changed told cs) k entry
      by true same = changed_without ((entry_test (get told k) entry).0 same)
      by false apart = changed_put

  pub noted_news : AreNews told cs → AreNews told (noted (get told k) k entry cs)
  noted_news news = by (same_option same_entry (get told k) entry) refl
    where
      by : (b : Bool) → same_option same_entry (get told k) entry ≡ b → AreNews told (cond b (without prefix_cmp k cs) (put prefix_cmp k entry cs))
      by true same = news_without news
      by false apart = news_put news (λ is. (let both : true ≡ false = sym ((entry_test (get told k) entry).1 is) ∙ apart in cc))

-- what holds once an entry, or none, is noted at a prefix
pub record IsNoted (told : Told) (k : Prefix) (entry : Option Entry) (cs now : List Change) : Type 0 where
  pub differ : AreNews told now
  pub present : changed told now ≡ with_news (changed told cs) k entry

pub noted_is : (told : Told) (k : Prefix) (entry was : Option Entry) (cs now : List Change) → is_sorted prefix_cmp cs ≡ true → AreNews told cs → was ≡ get told k → now ≡ noted was k entry cs → IsNoted told k entry cs now
noted_is told k entry was cs now sorted news seen is = subst (IsNoted told k entry cs) (sym (is ∙ ap (λ o. noted o k entry cs) seen)) (record {
  differ = noted_news told cs k entry sorted news;
  present = noted_present told cs k entry sorted;
})

-- what is noted, by the answer of the test
pub noted_at : (k : Prefix) (cs : List Change) (was now seen : Option Entry) (answer : Bool) → seen ≡ now → answer ≡ same_option same_entry was seen → (b : Bool) → answer ≡ b
    → noted was k now cs ≡ cond b (without prefix_cmp k cs) (put prefix_cmp k now cs)
noted_at k cs was now seen answer is said b at = ap (λ c. cond c (without prefix_cmp k cs) (put prefix_cmp k now cs)) (ap (same_option same_entry was) (sym is) ∙ sym said ∙ at)

-- ---- the first one, told

-- the later ones are news still
pub news_left : (told : Told) (c : Change) (cs : List Change) → is_sorted prefix_cmp (c ∷ cs) ≡ true → AreNews told (c ∷ cs) → AreNews (with_news told c.0 c.1) cs
news_left told c cs sorted news p now is same =
    let parts = and_parts (below_all prefix_cmp c.0 cs) (is_sorted prefix_cmp cs) sorted in
    by (eq_by_cmp prefix_cmp p c.0) refl (sym (get-with_news told c.0 c.1 p) ∙ same)
  where
    by : (b : Bool) → eq_by_cmp prefix_cmp p c.0 ≡ b → cond b c.1 (get told p) ≡ now → ⊥
    by true tie at =
        let parts = and_parts (below_all prefix_cmp c.0 cs) (is_sorted prefix_cmp cs) sorted in
        let none = find_below prefix_cmp prefixes_total p c.0 cs (tie_Equal _ tie) parts.0 in
        let both : None ≡ Some now = sym none ∙ is in cc
    by false apart at = news p now (ap (λ b. cond b (Some c.1) (find prefix_cmp p cs)) apart ∙ is) at
