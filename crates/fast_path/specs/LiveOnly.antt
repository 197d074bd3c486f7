-- What a line that builds rules does to the tags that are live, and the fresh tags of its groups (this exchange's own rule).
use Rattle.std.specs.Prelude.{◌≡◌, Bool, true, false, List, length, map, take}
use Rattle.std.specs.FinMap.{values}
use Rattle.std.specs.List.{list_any}
use Rattle.events.specs.State.{State}
use Rattle.events.specs.Tags.{Group, free_tags, groups, is_live, same_tag}
use Rattle.net_types.specs.Exports.{Routing}
use Rattle.net_types.specs.Sets.{Member}
use Rattle.net_types.specs.declared.address.Tag.{Tag}
use Rattle.net_types.specs.declared.route.Part.{Part}
use Rattle.registry.specs.Registered.{Registered}

-- what is declared
abbrev pub registered : State → Registered
registered s = record { participants = s.routing.participants; ports = s.routing.ports }

-- some prefix has the tag
abbrev pub has_prefix : State → Tag → Bool
has_prefix s t = list_any (same_tag t) (values s.tag)

-- exactly the tags that some prefix has in the one state and none in the other
pub record AreEmptied (s s1 : State) (ts : List Tag) : Type 0 where
  pub each : (t : Tag) → Member t ts → (has_prefix s t ≡ true) × (has_prefix s1 t ≡ false)
  pub all : (t : Tag) → has_prefix s t ≡ true → has_prefix s1 t ≡ false → Member t ts

-- exactly the tags that are live in the one state and not in the other
pub record AreDead (s s1 : State) (ts : List Tag) : Type 0 where
  pub each : (t : Tag) → Member t ts → (is_live s t ≡ true) × (is_live s1 t ≡ false)
  pub all : (t : Tag) → is_live s t ≡ true → is_live s1 t ≡ false → Member t ts

-- the fresh tags, in the order of the groups
abbrev pub group_tags : State → Routing → List Tag
group_tags s r = take (length (groups s r)) (free_tags s)

-- the signatures of the groups
abbrev pub group_signatures : State → Routing → List (List Part)
group_signatures s r = map (λ (g : Group). g.after) (groups s r)
