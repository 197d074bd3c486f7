-- What lines do to the classes and the table under a job (this exchange's own rule).
use Rattle.std.specs.Prelude.{◌≡◌, ◌⊎◌, ◌<◌, ◌≤◌, true, List, [], length, is_some}
use Rattle.std.specs.FinMap.{FinMap, entries, get}
use Rattle.net_types.specs.Keys.{prefix_cmp}
use Rattle.net_types.specs.Sets.{Member}
use Rattle.net_types.specs.declared.address.Tag.{Tag}
use Rattle.net_types.specs.declared.rule.Pair.{Pair}
use Rattle.prefix_classes.specs.Classes.{members}
use Rattle.recompile.specs.Covering.{AreFew, Covers}
use Rattle.recompile.specs.Setting.{Setting}
use Rattle.recompile.specs.Underway.{Underway}

-- No more prefixes have tags than before. A tag with members had some before, or is fresh. The pairs of the table are listed.
pub record IsListed (s : Setting) (before : FinMap prefix_cmp Tag) (fresh : List Tag) (listed : List Pair) : Type 0 where
  pub prefixes : length (entries s.tag) ≤ length (entries before)
  pub tags : (t : Tag) → 0 < members s.tag t → (0 < members before t) ⊎ Member t fresh
  pub pairs : (pair : Pair) → is_some (get s.table pair) ≡ true → Member pair listed
  pub few : AreFew s

-- A job covers whatever is listed so.
abbrev pub CoversListed : FinMap prefix_cmp Tag → List Tag → List Pair → Underway → Type 0
CoversListed before fresh pairs j = (s : Setting) → IsListed s before fresh pairs → Covers s j

-- A line that gives fresh tags, empties tags and adds pairs. A tag that had no members and has some is a fresh one. An emptied one
-- has none, and one that had some and has none is emptied. For the others what is kept is the same. A pair afterwards is an added
-- one, or has the rules that it had.
pub record IsChange (before after : Setting) (fresh emptied : List Tag) (added : List Pair) : Type 0 where
  pub new : (t : Tag) → members before.tag t ≡ 0 → 0 < members after.tag t → Member t fresh
  pub gone : (t : Tag) → Member t emptied → members after.tag t ≡ 0
  pub lost : (t : Tag) → 0 < members before.tag t → members after.tag t ≡ 0 → Member t emptied
  pub kept : (t : Tag) → 0 < members before.tag t → 0 < members after.tag t → get after.kept t ≡ get before.kept t
  pub table : (pair : Pair) → is_some (get after.table pair) ≡ true → Member pair added ⊎ (get after.table pair ≡ get before.table pair)
  pub few : AreFew after

-- a job covers what such a line leaves, where it covered what was there before
abbrev pub CoversAfter : List Tag → List Tag → List Pair → Underway → Underway → Type 0
CoversAfter fresh emptied added old new = (before after : Setting) → Covers before old → IsChange before after fresh emptied added → Covers after new

-- a job covers what a line leaves that gives no tag members and adds no pair, without being told
abbrev pub QuietChangesKeepJobs : Type 0
QuietChangesKeepJobs = (before after : Setting) (j : Underway) → Covers before j → IsChange before after [] [] [] → Covers after j
