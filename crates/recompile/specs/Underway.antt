-- What a background job is seen as (this exchange's own rule).
use Rattle.std.specs.Prelude.{ℕ, List}
use Rattle.std.specs.FinMap.{FinMap}
use Rattle.net_types.specs.Keys.{pair_cmp, tag_cmp}
use Rattle.net_types.specs.declared.address.Tag.{Tag}
use Rattle.net_types.specs.declared.route.Part.{Part}
use Rattle.net_types.specs.declared.rule.Pair.{Pair}
use Rattle.net_types.specs.declared.rule.Rule.{Rule}

-- the other rules that are built for pairs
abbrev pub BuiltPairs : Type 0
BuiltPairs = FinMap pair_cmp (List Rule)

-- The units that are owed, the tags that are placed with their signatures, the other rules that are built, and lists in which the
-- tags and the pairs that are still to do are found, among others that are done or gone.
pub record Underway : Type 0 where
  pub owed : ℕ
  pub placed : FinMap tag_cmp (List Part)
  pub built : BuiltPairs
  pub tags : List Tag
  pub pairs : List Pair
