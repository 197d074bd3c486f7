-- Groupings of tags by their signatures, and the moves that leave one tag for each signature (this exchange's own rule).
use Rattle.std.specs.Prelude.{◌≡◌, ◌≤◌, nat_lt, List, map, Option, Some, None, if◌then◌else◌}
use Rattle.std.specs.FinMap.{FinMap, get}
use Rattle.net_types.specs.Keys.{prefix_cmp, tag_cmp}
use Rattle.net_types.specs.Sets.{IsRising, Member}
use Rattle.net_types.specs.UpdateSpelling.{is_before}
use Rattle.net_types.specs.declared.address.Tag.{Tag}
use Rattle.net_types.specs.declared.prefix.Prefix.{Prefix}
use Rattle.net_types.specs.declared.route.Part.{Part}
use Rattle.prefix_classes.specs.Classes.{members}
use Rattle.prefix_classes.specs.Laws.{Change, changed}

-- the kept signature of a tag with members; a tag without members has none
abbrev pub used_sig : FinMap prefix_cmp Tag → FinMap tag_cmp (List Part) → Tag → Option (List Part)
used_sig tags kept t = if nat_lt 0 (members tags t) then get kept t else None

-- a grouping has exactly the tags with members, each with its kept signature
abbrev pub IsFull : FinMap prefix_cmp Tag → FinMap tag_cmp (List Part) → FinMap tag_cmp (List Part) → Type 0
IsFull tags kept grouping = (t : Tag) → get grouping t ≡ used_sig tags kept t

-- the least of the tags with members that have a signature
pub record IsLeastTag (tags : FinMap prefix_cmp Tag) (kept : FinMap tag_cmp (List Part)) (sig : List Part) (t : Tag) : Type 0 where
  pub has : used_sig tags kept t ≡ Some sig
  pub least : (u : Tag) → used_sig tags kept u ≡ Some sig → t.0 ≤ u.0

-- a prefix moves to the least tag of its signature, where that isn't the one it has
pub record IsMove (tags : FinMap prefix_cmp Tag) (kept : FinMap tag_cmp (List Part)) (p : Prefix) (t : Tag) : Type 0 where
  pub from : Tag
  pub had : get tags p ≡ Some from
  pub sig : List Part
  pub kept_sig : get kept from ≡ Some sig
  pub to : IsLeastTag tags kept sig t
  pub other : ¬ (from ≡ t)

-- the moves that merge the classes, in order of prefix
pub record IsMergeOf (tags : FinMap prefix_cmp Tag) (kept : FinMap tag_cmp (List Part)) (moves : List (Prefix × Tag)) : Type 0 where
  pub rising : IsRising is_before (map (λ m. m.0) moves)
  pub right : (p : Prefix) (t : Tag) → Member (p, t) moves → IsMove tags kept p t
  pub all : (p : Prefix) (t : Tag) → IsMove tags kept p t → Member (p, t) moves

-- a move as a change of a tag
abbrev pub as_change : Prefix × Tag → Change
as_change m = (m.0, Some m.1)

-- the tags after the moves
abbrev pub moved : FinMap prefix_cmp Tag → List (Prefix × Tag) → FinMap prefix_cmp Tag
moved tags moves = changed tags (map as_change moves)
