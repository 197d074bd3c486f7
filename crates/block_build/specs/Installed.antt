-- What a table of blocks is seen as (this exchange's own rule).
use Rattle.std.specs.Prelude.{ℕ, List, [], length, sum_by, unwrap_or}
use Rattle.std.specs.FinMap.{FinMap, get, values}
use Rattle.net_types.specs.Keys.{pair_cmp}
use Rattle.net_types.specs.declared.rule.Pair.{Pair}
use Rattle.net_types.specs.declared.rule.Rule.{Rule}

-- the rules of the pairs, how many new pairs go in without memory, and for how many rules there is room
pub record Installed : Type 0 where
  pub table : FinMap pair_cmp (List Rule)
  pub room : ℕ
  pub capacity : ℕ

-- how many rules a table has
abbrev pub rule_count : FinMap pair_cmp (List Rule) → ℕ
rule_count table = sum_by (λ (rules : List Rule). length rules) (values table)

-- how many rules a pair has
abbrev pub count_at : FinMap pair_cmp (List Rule) → Pair → ℕ
count_at table pair = length (unwrap_or (get table pair) [])
