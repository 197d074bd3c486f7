-- When a job covers the classes and the table: what it has done is right, it finds what is still to do, and it owes enough units
-- for that (this exchange's own rule).
use Rattle.std.specs.Prelude.{◌≡◌, ℕ, ◌+◌, ◌<◌, ◌≤◌, ◌⊎◌, List, length, Some, None}
use Rattle.std.specs.FinMap.{FinMap, get}
use Rattle.block_build.specs.Tight.{IsTightForm}
use Rattle.events.specs.Sound.{IsTight}
use Rattle.net_types.specs.Keys.{prefix_cmp, tag_cmp}
use Rattle.net_types.specs.Sets.{Member}
use Rattle.net_types.specs.declared.address.Tag.{Tag}
use Rattle.net_types.specs.declared.route.Part.{Part}
use Rattle.net_types.specs.declared.rule.Pair.{Pair}
use Rattle.net_types.specs.declared.rule.Rule.{Rule}
use Rattle.prefix_classes.specs.Classes.{members}
use Rattle.recompile.specs.Setting.{Setting}
use Rattle.recompile.specs.Underway.{Underway}

-- a tag is still to do: it has members and isn't placed
abbrev pub IsTagToDo : FinMap prefix_cmp Tag → FinMap tag_cmp (List Part) → Tag → Type 0
IsTagToDo tags placed t = (0 < members tags t) × (get placed t ≡ None)

-- At most so many tags that are still to do and entries of the list of pairs are there in all. Each entry counts, also that of a
-- pair that is gone or stands there twice.
pub record NeedsAtMost (s : Setting) (j : Underway) (units : ℕ) : Type 0 where
  pub tags : List Tag
  pub few : length tags + length j.pairs ≤ units
  pub all_tags : (t : Tag) → IsTagToDo s.tag j.placed t → Member t tags

-- A placed tag has members, and is placed with its kept signature. A tag with members that isn't placed is listed. A pair of the
-- table for which no other rules are built is listed, or those that it has are tight. The rules that are built for a pair of the
-- table are a tight form of those that it has.
pub record IsKeptUp (s : Setting) (j : Underway) : Type 0 where
  pub placed : (t : Tag) (sig : List Part) → get j.placed t ≡ Some sig → (0 < members s.tag t) × (get s.kept t ≡ Some sig)
  pub tags : (t : Tag) → IsTagToDo s.tag j.placed t → Member t j.tags
  pub pairs : (pair : Pair) (rules : List Rule) → get s.table pair ≡ Some rules → get j.built pair ≡ None → Member pair j.pairs ⊎ IsTight rules
  pub built : (pair : Pair) (made rules : List Rule) → get j.built pair ≡ Some made → get s.table pair ≡ Some rules → IsTightForm rules made

-- the job is kept up, and owes enough units for what is still to do
pub record Covers (s : Setting) (j : Underway) : Type 0 where
  pub kept_up : IsKeptUp s j
  pub enough : NeedsAtMost s j j.owed

-- the tags with members are at most 2^49, so that a job, which lists at most as many pairs, never needs more than 2^50 units
pub record AreFew (s : Setting) : Type 0 where
  pub tags : List Tag
  pub few : length tags ≤ 562949953421312
  pub all_tags : (t : Tag) → 0 < members s.tag t → Member t tags
