-- How many tags are free, and how many rules the table has.
use Rattle.std.proofs.Common.{◌≡◌, ℕ, zero, suc, ◌+◌, ◌≤◌, Bool, true, false, cond, ◌||◌, nat_eq, nat_lt, not, T, List, [], ◌∷◌, filter, length, map, sum_by, sym, ap, subst, ◌∙◌, refl, arith, inl, inr}
use Rattle.std.specs.Prelude.{Option, Some, None, is_none, unwrap_or}
use Rattle.std.specs.Cmp.{IsTotalOrder}
use Rattle.std.specs.FinMap.{FinMap, contains_key-keys, entries, entries_sorted, find, get, get-entries, is_sorted, keys}
use Rattle.std.specs.FinMap.Entries.{below_all, find-where_key, is_sorted-where_key, same_entries, where_key}
use Rattle.std.specs.List.{list_any}
use Rattle.std.specs.Ordering.{eq_by_cmp, is_lt}
use Rattle.std.specs.declared.cmp.Ordering.{Ordering}
use Rattle.std.specs.declared.cmp.Ordering.TheVariants.{Less, Equal, Greater}
use Rattle.std.proofs.lemmas.List.{length-append, length-map}
use Rattle.std.proofs.lemmas.List.Filters.{sum_by-filter_both}
use Rattle.std.proofs.lemmas.List.Sums.{sum_by-cons}
use Rattle.net_types.proofs.OrderedLemmas.{any_member, member_any, ordered_is, ordered_rises, ordered_same}
use Rattle.events.specs.Fits.{added, cells, dropped, flows_of}
use Rattle.events.specs.Sound.{rule_count}
use Rattle.events.specs.State.{State}
use Rattle.events.specs.Tags.{free_tags, is_live, is_live_pair, live_pairs, pairs, tags}
use Rattle.events.specs.declared.Flow.{Flow}
use Rattle.exchange_laws.proofs.FreshTags.{tags_rise}
use Rattle.exchange_laws.proofs.LivePairs.{pair_listed}
use Rattle.exchange_laws.proofs.Lists.{key_Member}
use Rattle.exchange_laws.specs.Counts.{FreeTagsAreCounted, NumbersFitCells, PairsAreLive, RulesAreCounted, TagsAreCounted, rules_at}
use Rattle.exchange_laws.specs.Listed.{HasLivePairs, is_pair_before}
use Rattle.exchange_laws.specs.Replies.{IsBuiltOn}
use Rattle.exchange_laws.specs.Retagging.{KeptAreLive, LiveAreKept, TagsArePooled}
use Rattle.net_types.proofs.OrderLemmas.{pairs_total, tags_total}
use Rattle.net_types.proofs.RisingLemmas.{Member-filter, before, before_itself, before_trans, filter-IsRising, filter-Member, keys-IsRising}
use Rattle.net_types.proofs.SetLemmas.{rising_unique}
use Rattle.net_types.proofs.TestLemmas.{both_hold}
use Rattle.net_types.proofs.TieLemmas.{pair_cmp-IsAntisymmetric, pair_tie, tag_tie, ties_itself}
use Rattle.net_types.proofs.ValueLemmas.{later_apart}
use Rattle.net_types.specs.Keys.{pair_cmp, tag_cmp}
use Rattle.net_types.specs.Routes.{numbers}
use Rattle.net_types.specs.Sets.{IsRising, Member, union_over}
use Rattle.net_types.specs.declared.address.Tag.{Tag}
use Rattle.net_types.specs.declared.route.Part.{Part}
use Rattle.net_types.specs.declared.rule.Pair.{Pair}
use Rattle.net_types.specs.declared.rule.Rule.{Rule}

-- ---- tags

either_way : {A : Type 0} (test : A → Bool) (xs : List A) → length (filter (λ x. not (test x)) xs) + length (filter test xs) ≡ length xs
either_way test [] = refl
either_way test (x ∷ xs) =
    let later : length (filter (λ y. not (test y)) xs) + length (filter test xs) ≡ length xs = either_way test xs in
    elim (test x) as (λ b. length (cond (not b) (x ∷ filter (λ y. not (test y)) xs) (filter (λ y. not (test y)) xs)) + length (cond b (x ∷ filter test xs) (filter test xs)) ≡ suc (length xs)) [
      | true ↦ omega arith
      | false ↦ omega arith
    ]

pub how_many : {B : Type 0} (at : ℕ → B) (low count : ℕ) → length (map at (numbers low count)) ≡ count
how_many at low zero = refl
how_many at low (suc count) = ap suc (how_many at (low + 1) count)

pub tags_are_counted : TagsAreCounted
tags_are_counted s = either_way (is_live s) (tags s) ∙ how_many (λ n. let t : Tag = record { 0 = n } in t) 1 s.size

-- ---- tags that are kept

weaker : {A : Type 0} (f g : A → A → Bool) → ((x y : A) → f x y ≡ true → g x y ≡ true) → (xs : List A) → IsRising f xs → IsRising g xs
weaker f g h [] rises = tt
weaker f g h (x ∷ xs) rises = (λ y m. h x y (rises.0 y m), weaker f g h xs rises.1)

tag_before : (t u : Tag) → nat_lt t.0 u.0 ≡ true → before tag_cmp t u ≡ true
tag_before t u less = ap (λ b. is_lt (cond b Less (cond (nat_eq t.0 u.0) Equal Greater))) less

-- where exactly the live tags are kept, they are the live ones of the pool
kept_tags : (s : State) → TagsArePooled s → KeptAreLive s → LiveAreKept s → keys s.kept ≡ filter (is_live s) (tags s)
kept_tags s pooled kept live =
    rising_unique (before tag_cmp) (before_itself tag_cmp tags_total) (before_trans tag_cmp tags_total) (keys s.kept) (filter (is_live s) (tags s)) (keys-IsRising tag_cmp s.kept)
    (filter-IsRising (before tag_cmp) (is_live s) (tags s) (weaker (λ t u. nat_lt t.0 u.0) (before tag_cmp) tag_before (tags s) (tags_rise 1 s.size))) (record {
      onto = λ t m.
          let is : is_live s t ≡ true = kept t (contains_key-keys s.kept t ∙ member_any tag_cmp tags_total tag_tie t (keys s.kept) m) in
          Member-filter (is_live s) (tags s) t (pooled t is) is;
      back = λ t m. key_Member tag_cmp tags_total tag_tie s.kept t (live t (filter-Member (is_live s) (tags s) t m).passes);
    })

pub free_tags_are_counted : FreeTagsAreCounted
free_tags_are_counted s pooled kept live =
    ap (λ n. length (free_tags s) + n) (sym (length-map (entries s.kept) (λ (e : Tag × List Part). e.0)) ∙ ap length (kept_tags s pooled kept live)) ∙ tags_are_counted s

-- ---- entries of a map

-- an entry of a map is what the map has at its key
entry_found : {K X : Type 0} (R : K → K → Ordering) → IsTotalOrder R → (es : List (K × X)) → T (is_sorted R es) → (e : K × X) → Member e es → find R e.0 es ≡ Some e.1
entry_found R o [] sorted e m = elim m [ ]
entry_found R o (d ∷ es) sorted e (inl same) = subst (λ x. cond (eq_by_cmp R x.0 d.0) (Some d.1) (find R x.0 es) ≡ Some x.1) (sym same) (ap (λ b. cond b (Some d.1) (find R d.0 es)) (ties_itself o d.0))
entry_found R o (d ∷ es) sorted e (inr m) =
    let sorts = both_hold (below_all R d.0 es) (is_sorted R es) sorted in
    let later = entry_found R o es sorts.1 e m in
    ap (λ b. cond b (Some d.1) (find R e.0 es)) (later_apart R o d.0 e.0 e.1 es sorts.0 later) ∙ later

pub entry_at : (t : FinMap pair_cmp (List Rule)) (e : Pair × List Rule) → Member e (entries t) → get t e.0 ≡ Some e.1
entry_at t e m = get-entries t e.0 ∙ entry_found pair_cmp pairs_total (entries t) (entries_sorted t) e m

-- ---- rules

-- the rules of entries
abbrev rules_in : List (Pair × List Rule) → ℕ
rules_in es = sum_by (λ (e : Pair × List Rule). length e.1) es

sum_map : {A B : Type 0} (f : B → ℕ) (g : A → B) (xs : List A) → sum_by f (map g xs) ≡ sum_by (λ x. f (g x)) xs
sum_map f g [] = refl
sum_map f g (x ∷ xs) = sum_by-cons f (g x) (map g xs) ∙ ap (λ n. f (g x) + n) (sum_map f g xs) ∙ sym (sum_by-cons (λ y. f (g y)) x xs)

flows_in : (es : List (Pair × List Rule)) → length (union_over flows_of es) ≡ rules_in es
flows_in [] = refl
flows_in (e ∷ es) =
    length-append (flows_of e) (union_over flows_of es) ∙ ap (λ n. n + length (union_over flows_of es)) (length-map e.1 (λ rule. let f : Flow = record { pair = e.0; rule = rule } in f))
    ∙ ap (λ n. length e.1 + n) (flows_in es) ∙ sym (sum_by-cons (λ (d : Pair × List Rule). length d.1) e es)

-- the rules of those pairs that pass
dropped_in : (s : State) (test : Pair → Bool) (es : List (Pair × List Rule)) → ((e : Pair × List Rule) → Member e es → get s.table e.0 ≡ Some e.1)
    → rules_at s (filter test (map (λ (e : Pair × List Rule). e.0) es)) ≡ rules_in (where_key pair_cmp test es)
dropped_in s test [] at = refl
dropped_in s test (e ∷ es) at = by (test e.0) (dropped_in s test es (λ d m. at d (inr m)))
  where
    by : (b : Bool) → rules_at s (filter test (map (λ (d : Pair × List Rule). d.0) es)) ≡ rules_in (where_key pair_cmp test es)
        → rules_at s (cond b (e.0 ∷ filter test (map (λ (d : Pair × List Rule). d.0) es)) (filter test (map (λ (d : Pair × List Rule). d.0) es))) ≡ rules_in (cond b (e ∷ where_key pair_cmp test es) (where_key pair_cmp test es))
    by true later =
        sum_by-cons (λ pair. length (unwrap_or (get s.table pair) [])) e.0 (filter test (map (λ (d : Pair × List Rule). d.0) es))
        ∙ ap (λ o. length (unwrap_or o []) + rules_at s (filter test (map (λ (d : Pair × List Rule). d.0) es))) (at e (inl refl))
        ∙ ap (λ n. length e.1 + n) later ∙ sym (sum_by-cons (λ (d : Pair × List Rule). length d.1) e (where_key pair_cmp test es))
    by false later = later

-- the pairs that stay have the same entries before and after
stay_case : (b : Bool) (o o1 : Option (List Rule)) → ((old new : List Rule) → b ≡ false → o ≡ Some old → o1 ≡ Some new → old ≡ new)
    → cond (not (is_none o1 || b)) o None ≡ cond (not (is_none o || b)) o1 None
stay_case true None None stays = refl
stay_case true None (Some y) stays = refl
stay_case true (Some x) None stays = refl
stay_case true (Some x) (Some y) stays = refl
stay_case false None None stays = refl
stay_case false None (Some y) stays = refl
stay_case false (Some x) None stays = refl
stay_case false (Some x) (Some y) stays = ap Some (stays x y refl refl refl)

module _ (s s1 : State) (is_rebuilt : Pair → Bool) (on : IsBuiltOn s s1 is_rebuilt) where
  abbrev goes : Pair → Bool
  goes k = is_none (get s1.table k) || is_rebuilt k

  abbrev comes : Pair → Bool
  comes k = is_none (get s.table k) || is_rebuilt k

  what_stays : where_key pair_cmp (λ k. not (goes k)) (entries s.table) ≡ where_key pair_cmp (λ k. not (comes k)) (entries s1.table)
  what_stays = same_entries pair_cmp pairs_total pair_cmp-IsAntisymmetric (where_key pair_cmp (λ k. not (goes k)) (entries s.table)) (where_key pair_cmp (λ k. not (comes k)) (entries s1.table))
      (is_sorted-where_key pair_cmp (λ k. not (goes k)) (entries s.table) (entries_sorted s.table)) (is_sorted-where_key pair_cmp (λ k. not (comes k)) (entries s1.table) (entries_sorted s1.table)) (λ q.
      find-where_key pair_cmp (λ k. not (goes k)) q (λ x e. ap (λ k. not (goes k)) (sym (pair_cmp-IsAntisymmetric q x e))) (entries s.table)
      ∙ ap (λ o. cond (not (goes q)) o None) (sym (get-entries s.table q))
      ∙ stay_case (is_rebuilt q) (get s.table q) (get s1.table q) (on.stays q)
      ∙ ap (λ o. cond (not (comes q)) o None) (get-entries s1.table q)
      ∙ sym (find-where_key pair_cmp (λ k. not (comes k)) q (λ x e. ap (λ k. not (comes k)) (sym (pair_cmp-IsAntisymmetric q x e))) (entries s1.table)))

  split : (test : Pair → Bool) (es : List (Pair × List Rule)) → rules_in (where_key pair_cmp test es) + rules_in (where_key pair_cmp (λ k. not (test k)) es) ≡ rules_in es
  split test es = sum_by-filter_both (λ (e : Pair × List Rule). test e.0) (λ (e : Pair × List Rule). not (test e.0)) (λ e. refl) (λ (e : Pair × List Rule). length e.1) es

  pub counted : rule_count s1 + rules_at s (dropped s s1 is_rebuilt) ≡ rule_count s + length (added s s1 is_rebuilt)
  counted =
      let old : rule_count s ≡ rules_in (entries s.table) = sum_map (λ (rules : List Rule). length rules) (λ (e : Pair × List Rule). e.1) (entries s.table) in
      let new : rule_count s1 ≡ rules_in (entries s1.table) = sum_map (λ (rules : List Rule). length rules) (λ (e : Pair × List Rule). e.1) (entries s1.table) in
      let out : rules_at s (dropped s s1 is_rebuilt) ≡ rules_in (where_key pair_cmp goes (entries s.table)) = dropped_in s goes (entries s.table) (entry_at s.table) in
      let into : length (added s s1 is_rebuilt) ≡ rules_in (where_key pair_cmp comes (entries s1.table)) = flows_in (where_key pair_cmp comes (entries s1.table)) in
      let first : rules_in (where_key pair_cmp goes (entries s.table)) + rules_in (where_key pair_cmp (λ k. not (goes k)) (entries s.table)) ≡ rules_in (entries s.table) = split goes (entries s.table) in
      let second : rules_in (where_key pair_cmp comes (entries s1.table)) + rules_in (where_key pair_cmp (λ k. not (comes k)) (entries s1.table)) ≡ rules_in (entries s1.table) = split comes (entries s1.table) in
      let same : rules_in (where_key pair_cmp (λ k. not (goes k)) (entries s.table)) ≡ rules_in (where_key pair_cmp (λ k. not (comes k)) (entries s1.table)) = ap rules_in what_stays in
      sums (rule_count s) (rule_count s1) (rules_at s (dropped s s1 is_rebuilt)) (length (added s s1 is_rebuilt)) (rules_in (entries s.table)) (rules_in (entries s1.table))
      (rules_in (where_key pair_cmp goes (entries s.table))) (rules_in (where_key pair_cmp comes (entries s1.table)))
      (rules_in (where_key pair_cmp (λ k. not (goes k)) (entries s.table))) (rules_in (where_key pair_cmp (λ k. not (comes k)) (entries s1.table))) old new out into first second same
    where
      sums : (a b c d e f g h i j : ℕ) → a ≡ e → b ≡ f → c ≡ g → d ≡ h → g + i ≡ e → h + j ≡ f → i ≡ j → b + c ≡ a + d
      sums a b c d e f g h i j p q r t u v w = omega arith

pub rules_are_counted : RulesAreCounted
rules_are_counted s s1 is_rebuilt on = counted s s1 is_rebuilt on

-- ---- live pairs

-- where the table has exactly the live pairs, they are its keys
pub listed_pairs : (s : State) → HasLivePairs s → TagsArePooled s → keys s.table ≡ live_pairs s
listed_pairs s has pooled = ordered_is pair_cmp pairs_total pair_tie (keys s.table) (filter (is_live_pair s) (pairs s)) (keys-IsRising pair_cmp s.table) (record {
  onto = λ q m. let live : is_live_pair s q ≡ true = sym (has q) ∙ contains_key-keys s.table q ∙ member_any pair_cmp pairs_total pair_tie q (keys s.table) m in Member-filter (is_live_pair s) (pairs s) q (pair_listed s pooled q live) live;
  back = λ q m. key_Member pair_cmp pairs_total pair_tie s.table q (has q ∙ (filter-Member (is_live_pair s) (pairs s) q m).passes);
})

pub pairs_are_live : PairsAreLive
pairs_are_live s sound pooled = listed_pairs s sound.pairs pooled

-- ---- cells

-- what is less at each member is less together
sums_below : {A : Type 0} (f g : A → ℕ) (xs : List A) → ((x : A) → Member x xs → f x ≤ g x) → sum_by f xs ≤ sum_by g xs
sums_below f g [] each = omega arith
sums_below f g (x ∷ xs) each =
    let here : f x ≤ g x = each x (inl refl) in
    let later : sum_by f xs ≤ sum_by g xs = sums_below f g xs (λ y m. each y (inr m)) in
    let first : sum_by f (x ∷ xs) ≡ f x + sum_by f xs = sum_by-cons f x xs in
    let second : sum_by g (x ∷ xs) ≡ g x + sum_by g xs = sum_by-cons g x xs in
    omega arith

-- those that pass are together no more than all
sums_within : {A : Type 0} (f : A → ℕ) (test : A → Bool) (xs : List A) → sum_by f (filter test xs) ≤ sum_by f xs
sums_within f test xs =
    let both : sum_by f (filter test xs) + sum_by f (filter (λ x. not (test x)) xs) ≡ sum_by f xs = sum_by-filter_both test (λ x. not (test x)) (λ x. refl) f xs in
    omega arith

-- distinct members of a rising list, in order, are those of its members that stand among them
among : (ks xs : List Pair) → IsRising is_pair_before ks → IsRising is_pair_before xs → ((pair : Pair) → Member pair ks → Member pair xs) → ks ≡ filter (λ pair. list_any (eq_by_cmp pair_cmp pair) ks) xs
among ks xs rising all stand =
    rising_unique (before pair_cmp) (before_itself pair_cmp pairs_total) (before_trans pair_cmp pairs_total) ks (filter stands xs) rising (filter-IsRising (before pair_cmp) stands xs all) (record {
      onto = λ pair m. Member-filter stands xs pair (stand pair m) (member_any pair_cmp pairs_total pair_tie pair ks m);
      back = λ pair m. any_member pair_cmp pairs_total pair_tie pair ks (filter-Member stands xs pair m).passes;
    })
  where
    stands : Pair → Bool
    stands pair = list_any (eq_by_cmp pair_cmp pair) ks

-- the live pairs rise, and each stands among them
pub live_rise : (s : State) → IsRising is_pair_before (live_pairs s)
live_rise s = ordered_rises pair_cmp pairs_total pair_tie (filter (is_live_pair s) (pairs s))

pub live_Member : (s : State) → TagsArePooled s → (pair : Pair) → is_live_pair s pair ≡ true → Member pair (live_pairs s)
live_Member s pooled pair live =
    (ordered_same pair_cmp pairs_total pair_tie (filter (is_live_pair s) (pairs s))).back pair
    (Member-filter (is_live_pair s) (pairs s) pair (pair_listed s pooled pair live) live)

pub numbers_fit_cells : NumbersFitCells
numbers_fit_cells s ps ks count pooled rising each =
    let few : sum_by count ks ≤ sum_by (cells ps s) ks = sums_below count (cells ps s) ks (λ pair m. (each pair m).1) in
    let those : ks ≡ filter stands (live_pairs s) = among ks (live_pairs s) rising (live_rise s) (λ pair m. live_Member s pooled pair (each pair m).0) in
    let same : sum_by (cells ps s) ks ≡ sum_by (cells ps s) (filter stands (live_pairs s)) = ap (sum_by (cells ps s)) those in
    let within : sum_by (cells ps s) (filter stands (live_pairs s)) ≤ sum_by (cells ps s) (live_pairs s) = sums_within (cells ps s) stands (live_pairs s) in
    omega arith
  where
    stands : Pair → Bool
    stands pair = list_any (eq_by_cmp pair_cmp pair) ks
