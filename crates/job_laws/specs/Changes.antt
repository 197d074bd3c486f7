-- What the reply at the end of a job lists (this exchange's own rule).
use Rattle.std.specs.Prelude.{◌≡◌, ◌↔◌, Bool, true, List}
use Rattle.std.specs.Cmp.Lexicographic.{pointwise}
use Rattle.std.specs.FinMap.{FinMap, get}
use Rattle.std.specs.Ordering.{is_lt}
use Rattle.events.specs.Fits.{tag_changes}
use Rattle.events.specs.Sound.{same_rule}
use Rattle.events.specs.declared.TagChange.{TagChange}
use Rattle.net_types.specs.Keys.{prefix_cmp}
use Rattle.net_types.specs.Sets.{IsRising, Member}
use Rattle.net_types.specs.declared.address.Tag.{Tag}
use Rattle.net_types.specs.declared.prefix.Prefix.{Prefix}
use Rattle.net_types.specs.declared.rule.Rule.{Rule}

-- the prefix of one change comes before that of another
abbrev pub is_change_before : TagChange → TagChange → Bool
is_change_before a b = is_lt (prefix_cmp a.prefix b.prefix)

-- These are the changes from one map of tags to another: in order, each prefix that has another tag now, or none any more.
pub record AreChanges (old new : FinMap prefix_cmp Tag) (changes : List TagChange) : Type 0 where
  pub rising : IsRising is_change_before changes
  pub now : (c : TagChange) → Member c changes → get new c.prefix ≡ c.tag
  pub differs : (c : TagChange) → Member c changes → ¬ get old c.prefix ≡ c.tag
  pub all : (p : Prefix) → ¬ get old p ≡ get new p → (c : TagChange) × Member c changes × (c.prefix ≡ p)

-- they are the changes that a reply lists
abbrev pub ChangesAreListed : Type 0
ChangesAreListed = (old new : FinMap prefix_cmp Tag) (changes : List TagChange) → AreChanges old new changes → tag_changes old new ≡ changes

-- rules pass as the same exactly where they are equal
abbrev pub SameRulesAreEqual : Type 0
SameRulesAreEqual = (rules others : List Rule) → (pointwise same_rule rules others ≡ true) ↔ (rules ≡ others)
