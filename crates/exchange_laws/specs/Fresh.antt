-- Fresh tags (this exchange's own rule).
use Rattle.std.specs.Prelude.{◌≡◌, ℕ, ◌+◌, ◌≤◌, true, false, ◌&&◌, not, nat_lt, length, find, slice_get, Some}
use Rattle.events.specs.State.{State}
use Rattle.events.specs.Tags.{Group, free_tags, fresh_tag, group_of, groups, is_carried, is_changed, is_live, tags}
use Rattle.net_types.specs.Exports.{Routing}
use Rattle.net_types.specs.Sets.{Member}
use Rattle.net_types.specs.declared.address.Tag.{Tag}
use Rattle.net_types.specs.declared.prefix.Prefix.{Prefix}

-- no more groups than free tags
abbrev pub HasEnoughTags : State → Routing → Type 0
HasEnoughTags s r = length (groups s r) ≤ length (free_tags s)

-- a tag of the pool that isn't live
pub record IsFree (s : State) (t : Tag) : Type 0 where
  pub pooled : Member t (tags s)
  pub unused : is_live s t ≡ false

-- the group at place k takes the free tag at place k
abbrev pub FreshTagsByPlace : Type 0
FreshTagsByPlace =
    (s : State) (r : Routing) (k : ℕ) (g : Group) → slice_get (groups s r) k ≡ Some g → fresh_tag s r g ≡ slice_get (free_tags s) k

-- where there are enough tags each group has a fresh one, which was free
abbrev pub GroupsHaveFreshTags : Type 0
GroupsHaveFreshTags =
    (s : State) (r : Routing) → HasEnoughTags s r → (g : Group) → Member g (groups s r) → (t : Tag) × (fresh_tag s r g ≡ Some t) × IsFree s t

-- and different groups have different ones
abbrev pub FreshTagsDiffer : Type 0
FreshTagsDiffer =
    (s : State) (r : Routing) (g h : Group) → Member g (groups s r) → Member h (groups s r)
    → (t : Tag) → fresh_tag s r g ≡ Some t → fresh_tag s r h ≡ Some t → g ≡ h

-- the group of each carried prefix that changed is one of the groups
abbrev pub ChangedAreGrouped : Type 0
ChangedAreGrouped = (s : State) (r : Routing) (p : Prefix) → is_carried r p ≡ true → is_changed s r p ≡ true → Member (group_of s r p) (groups s r)

-- the free tags rise: behind each comes the least greater one that is free
abbrev pub FreeTagsRise : Type 0
FreeTagsRise =
    (s : State) (k : ℕ) (t : Tag) → slice_get (free_tags s) k ≡ Some t
    → slice_get (free_tags s) (k + 1) ≡ find (λ u. not (is_live s u) && nat_lt t.0 u.0) (tags s)
