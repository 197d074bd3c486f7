-- What a map from prefixes is seen as.
use Rattle.std.specs.Prelude.{ℕ}
use Rattle.std.specs.FinMap.{FinMap}
use Rattle.net_types.specs.Keys.{prefix_cmp}

-- the values of the prefixes, and how many new prefixes go in without memory
pub record Held (V : Type 0) : Type 0 where
  pub map : FinMap prefix_cmp V
  pub room : ℕ
