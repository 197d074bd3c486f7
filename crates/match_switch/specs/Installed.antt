-- What the table of the switch is seen as, and which entries are kept for it (this exchange's own rule).
use Rattle.std.specs.Prelude.{◌≡◌, ℕ, ◌+◌, ◌-◌, ◌^◌, ◌<◌, min, Bool, true, List, length, map, sum_by, Option, Some, None}
use Rattle.std.specs.FinMap.{FinMap, entries, is_sorted}
use Rattle.std.specs.Ordering.{is_lt}
use Rattle.net_types.specs.Keys.{pair_cmp}
use Rattle.net_types.specs.declared.rule.Pair.{Pair}
use Rattle.net_types.specs.declared.rule.Rule.{Rule}
use Rattle.block_build.specs.Installed.{count_at}
use Rattle.match_switch.specs.declared.fault.PutFault.{PutFault}
use Rattle.match_switch.specs.declared.fault.PutFault.TheVariants.{TableFull, Memory}
pub use Rattle.block_build.specs.Installed.{Installed, rule_count}

-- how many rules entries have
abbrev pub entries_count : List (Pair × List Rule) → ℕ
entries_count es = sum_by (λ (e : Pair × List Rule). length e.1) es

-- the pairs rise, and so many rules are there
pub record IsKept (es : List (Pair × List Rule)) (rules : ℕ) : Type 0 where
  pub rising : is_sorted pair_cmp es ≡ true
  pub counted : rules ≡ entries_count es

-- the pairs of entries
abbrev pub pairs_in : List (Pair × List Rule) → List Pair
pairs_in es = map (λ (e : Pair × List Rule). e.0) es

-- the pairs of a table, ascending
abbrev pub pairs_of : FinMap pair_cmp (List Rule) → List Pair
pairs_of table = pairs_in (entries table)

-- greater than the given pair, where one is given
abbrev pub is_past : Option Pair → Pair → Bool
is_past None pair = true
is_past (Some after) pair = is_lt (pair_cmp after pair)

-- how many rules there are once these are the rules of a pair
abbrev pub count_with : FinMap pair_cmp (List Rule) → Pair → List Rule → ℕ
count_with table pair rules = rule_count table - count_at table pair + length rules

-- that are more than there is room for
abbrev pub IsOver : Installed → Pair → List Rule → Type 0
IsOver s pair rules = s.capacity < count_with s.table pair rules

-- why the rules of a pair aren't put in: there would be too many, with their number, which stands still at the last one of
-- 64 bits; or memory ran out, and there would be room
abbrev pub IsPutFault : Installed → Pair → List Rule → PutFault → Type 0
IsPutFault s pair rules (TableFull count capacity) = IsOver s pair rules × (count ≡ min (2 ^ 64 - 1) (count_with s.table pair rules)) × (capacity ≡ s.capacity)
IsPutFault s pair rules Memory = ¬ IsOver s pair rules
