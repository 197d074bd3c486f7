-- What a table is whose entries rise, and what an edit of the entries does to it.
use Rattle.std.proofs.Common.{◌≡◌, ℕ, ◌+◌, ◌-◌, ◌≤◌, Bool, true, cond, List, [], ◌∷◌, length, sym, ap, subst, ◌∙◌, refl, arith}
use Rattle.std.specs.Prelude.{Option, unwrap_or}
use Rattle.std.specs.FinMap.{entries, get, insert, remove, from_sorted}
use Rattle.std.specs.FinMap.Entries.{find, is_sorted, put}
use Rattle.net_types.proofs.OrderLemmas.{pairs_total}
use Rattle.net_types.proofs.PlaceLemmas.{without, entries_of_sorted, get_sorted, insert_sorted, put_sorted, remove_sorted, without_sorted}
use Rattle.net_types.proofs.TieLemmas.{pair_cmp-IsAntisymmetric}
use Rattle.net_types.specs.Keys.{pair_cmp}
use Rattle.net_types.specs.declared.rule.Pair.{Pair}
use Rattle.net_types.specs.declared.rule.Rule.{Rule}
use Rattle.block_build.specs.Installed.{Installed, count_at, rule_count}
use Rattle.events.specs.After.{without_pairs}
use Rattle.ordered_map.specs.Entries.{without_each}
use Rattle.match_switch.specs.Installed.{IsKept, entries_count}
use Rattle.match_switch.proofs.CountLemmas.{count-put, count-without, sum-values}

-- the rules of entries are those of their table
pub table_count : (es : List (Pair × List Rule)) → is_sorted pair_cmp es ≡ true → rule_count (from_sorted es) ≡ entries_count es
table_count es sorted =
    sum-values (λ (rules : List Rule). length rules) (entries (from_sorted {R = pair_cmp} es)) ∙ ap entries_count (entries_of_sorted pair_cmp es sorted)

-- entries that are kept, and the value that contracts see
module _ (es : List (Pair × List Rule)) (rules room capacity : ℕ) (kept : IsKept es rules) (s : Installed) (is : record { table = from_sorted es; room = room; capacity = capacity } ≡ s) where
  pub get_is : (pair : Pair) → get s.table pair ≡ find pair_cmp pair es
  get_is pair = ap (λ (t : Installed). get t.table pair) (sym is) ∙ get_sorted pair_cmp es pair kept.rising

  pub count_is : rule_count s.table ≡ rules
  count_is = ap (λ (t : Installed). rule_count t.table) (sym is) ∙ table_count es kept.rising ∙ sym kept.counted

  -- what was found of a pair is what the table has
  pub count_found : (pair : Pair) (before : Option (List Rule)) → before ≡ find pair_cmp pair es → (n : ℕ) → n ≡ length (unwrap_or before []) → n ≡ count_at s.table pair
  count_found pair before e n len = len ∙ ap (λ (m : Option (List Rule)). length (unwrap_or m [])) (e ∙ sym (get_is pair))

  pub entries_are : entries s.table ≡ es
  entries_are = ap (λ (t : Installed). entries t.table) (sym is) ∙ entries_of_sorted pair_cmp es kept.rising

  pub room_is : room ≡ s.room
  room_is = ap (λ (t : Installed). t.room) is

  pub table_put : (pair : Pair) (new : List Rule) (ds : List (Pair × List Rule)) → ds ≡ put pair_cmp pair new es → from_sorted ds ≡ insert s.table pair new
  table_put pair new ds e = ap from_sorted e ∙ insert_sorted pair_cmp pairs_total pair new es kept.rising ∙ ap (λ (t : Installed). insert t.table pair new) is

  pub table_without : (pair : Pair) (ds : List (Pair × List Rule)) → ds ≡ without pair_cmp pair es → from_sorted ds ≡ remove s.table pair
  table_without pair ds e = ap from_sorted e ∙ remove_sorted pair_cmp pairs_total pair_cmp-IsAntisymmetric pair es kept.rising ∙ ap (λ (t : Installed). remove t.table pair) is

  rising_put : (pair : Pair) (new : List Rule) (ds : List (Pair × List Rule)) → ds ≡ put pair_cmp pair new es → is_sorted pair_cmp ds ≡ true
  rising_put pair new ds e = ap (is_sorted pair_cmp) e ∙ put_sorted pair_cmp pairs_total pair new es kept.rising

  rising_without : (pair : Pair) (ds : List (Pair × List Rule)) → ds ≡ without pair_cmp pair es → is_sorted pair_cmp ds ≡ true
  rising_without pair ds e = ap (is_sorted pair_cmp) e ∙ without_sorted pair_cmp pair es kept.rising

  counted_put : (pair : Pair) (new : List Rule) (ds : List (Pair × List Rule)) → ds ≡ put pair_cmp pair new es → entries_count ds + length (unwrap_or (find pair_cmp pair es) []) ≡ rules + length new
  counted_put pair new ds e =
      ap (λ xs. entries_count xs + length (unwrap_or (find pair_cmp pair es) [])) e ∙ count-put pair_cmp pairs_total pair new es kept.rising ∙ ap (λ n. n + length new) (sym kept.counted)

  counted_without : (pair : Pair) (ds : List (Pair × List Rule)) → ds ≡ without pair_cmp pair es → entries_count ds + length (unwrap_or (find pair_cmp pair es) []) ≡ rules
  counted_without pair ds e =
      ap (λ xs. entries_count xs + length (unwrap_or (find pair_cmp pair es) [])) e ∙ count-without pair_cmp pairs_total pair es kept.rising ∙ sym kept.counted

  -- the rules that a pair has are some of all
  pub few_before : (pair : Pair) (before : Option (List Rule)) → before ≡ find pair_cmp pair es → (n : ℕ) → n ≡ length (unwrap_or before []) → n ≤ rules
  few_before pair before e n len =
      let all = counted_without pair (without pair_cmp pair es) refl in
      let is_n : n ≡ length (unwrap_or (find pair_cmp pair es) []) = len ∙ ap (λ (m : Option (List Rule)). length (unwrap_or m [])) e in
      omega (arith, all, is_n)

  pub kept_put : (pair : Pair) (new : List Rule) (ds : List (Pair × List Rule)) → ds ≡ put pair_cmp pair new es → (before : Option (List Rule)) → before ≡ find pair_cmp pair es → (added n : ℕ) → added ≡ length new → n ≡ length (unwrap_or before []) → IsKept ds (rules - n + added)
  kept_put pair new ds e before b added n is_added len =
      let is_n : n ≡ length (unwrap_or (find pair_cmp pair es) []) = len ∙ ap (λ (m : Option (List Rule)). length (unwrap_or m [])) b in
      let all = counted_put pair new ds e in
      let few = few_before pair before b n len in
      record { rising = rising_put pair new ds e; counted = omega (arith, all, is_n, is_added, few) }

  pub kept_without : (pair : Pair) (ds : List (Pair × List Rule)) → ds ≡ without pair_cmp pair es → (before : Option (List Rule)) → before ≡ find pair_cmp pair es → (n : ℕ) → n ≡ length (unwrap_or before []) → IsKept ds (rules - n)
  kept_without pair ds e before b n len =
      let is_n : n ≡ length (unwrap_or (find pair_cmp pair es) []) = len ∙ ap (λ (m : Option (List Rule)). length (unwrap_or m [])) b in
      let all = counted_without pair ds e in
      record { rising = rising_without pair ds e; counted = omega (arith, all, is_n) }

  pub count_put : (pair : Pair) (new : List Rule) (ds : List (Pair × List Rule)) → ds ≡ put pair_cmp pair new es → rule_count (from_sorted ds) + length (unwrap_or (get s.table pair) []) ≡ rule_count s.table + length new
  count_put pair new ds e =
      (λ i. table_count ds (rising_put pair new ds e) i + length (unwrap_or (get_is pair i) [])) ∙ counted_put pair new ds e ∙ ap (λ n. n + length new) (sym count_is)

  pub count_without : (pair : Pair) (ds : List (Pair × List Rule)) → ds ≡ without pair_cmp pair es → rule_count (from_sorted ds) + length (unwrap_or (get s.table pair) []) ≡ rule_count s.table
  count_without pair ds e =
      (λ i. table_count ds (rising_without pair ds e) i + length (unwrap_or (get_is pair i) [])) ∙ counted_without pair ds e ∙ sym count_is

-- ---- the pairs of a list taken out

pub each_table : (pairs : List Pair) (es : List (Pair × List Rule)) → is_sorted pair_cmp es ≡ true → from_sorted {R = pair_cmp} (without_each pair_cmp pairs es) ≡ without_pairs (from_sorted es) pairs
each_table [] es rising = refl
each_table (p ∷ ps) es rising =
    each_table ps (without pair_cmp p es) (without_sorted pair_cmp p es rising)
    ∙ ap (λ m. without_pairs m ps) (remove_sorted pair_cmp pairs_total pair_cmp-IsAntisymmetric p es rising)

module _ (es : List (Pair × List Rule)) (rules room capacity : ℕ) (kept : IsKept es rules) (s : Installed) (is : record { table = from_sorted es; room = room; capacity = capacity } ≡ s) (pairs : List Pair) (ds : List (Pair × List Rule)) (e : ds ≡ without_each pair_cmp pairs es) where
  pub table_without_each : from_sorted ds ≡ without_pairs s.table pairs
  table_without_each = ap from_sorted e ∙ each_table pairs es kept.rising ∙ ap (λ (t : Installed). without_pairs t.table pairs) is

  module _ (gone : ℕ) (left : gone + entries_count ds ≡ 0 + entries_count es) where
    pub few_gone : gone ≤ rules
    few_gone = let all = kept.counted in omega (arith, all, left)

    module _ (rising : is_sorted pair_cmp ds ≡ true) where
      pub kept_without_each : IsKept ds (rules - gone)
      kept_without_each = let all = kept.counted in record { rising = rising; counted = omega (arith, all, left) }

      pub count_without_each : rule_count (from_sorted ds) ≤ rule_count s.table
      count_without_each =
          let now = table_count ds rising in
          let before = count_is es rules room capacity kept s is in
          let all = kept.counted in
          omega (arith, now, before, all, left)

-- ---- room

pub room_put : (held room after : ℕ) (b c : Bool) → held ≡ room → b ≡ c → held ≤ after + cond b 0 1 → room ≤ after + cond c 0 1
room_put held room after b c same tie enough = subst (λ n. n ≤ after + cond c 0 1) same (subst (λ x. held ≤ after + cond x 0 1) tie enough)
