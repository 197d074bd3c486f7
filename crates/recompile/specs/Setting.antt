-- What a background job works on (this exchange's own rule).
use Rattle.std.specs.Prelude.{List}
use Rattle.std.specs.FinMap.{FinMap}
use Rattle.events.specs.State.{State}
use Rattle.net_types.specs.Keys.{pair_cmp, prefix_cmp, tag_cmp}
use Rattle.net_types.specs.declared.address.Tag.{Tag}
use Rattle.net_types.specs.declared.route.Part.{Part}
use Rattle.net_types.specs.declared.rule.Rule.{Rule}
use Rattle.prefix_classes.specs.Classes.{Classes}

-- the tags of the prefixes, the signatures that are kept for tags, and the rules of the pairs
pub record Setting : Type 0 where
  pub tag : FinMap prefix_cmp Tag
  pub kept : FinMap tag_cmp (List Part)
  pub table : FinMap pair_cmp (List Rule)

-- what the classes and a table have
abbrev pub setting : Classes → FinMap pair_cmp (List Rule) → Setting
setting classes table = record { tag = classes.tag; kept = classes.kept; table = table }

-- what a state has
abbrev pub setting_of : State → Setting
setting_of s = record { tag = s.tag; kept = s.kept; table = s.table }
