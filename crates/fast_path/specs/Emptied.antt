-- The tags that no prefix has any more once changes are made (this exchange's own rule).
use Rattle.std.specs.Prelude.{Bool, nat_eq, List, filter, count_by}
use Rattle.std.specs.FinMap.{FinMap, get}
use Rattle.std.specs.List.{filter_map}
use Rattle.events.specs.Tags.{same_tag}
use Rattle.events.specs.declared.TagChange.{TagChange}
use Rattle.net_types.specs.Keys.{prefix_cmp, tag_cmp}
use Rattle.net_types.specs.Maps.{ordered}
use Rattle.net_types.specs.declared.address.Tag.{Tag}
use Rattle.prefix_classes.specs.Classes.{members}

-- the tags that the changed prefixes had, in order of the changes
abbrev pub old_tags : FinMap prefix_cmp Tag → List TagChange → List Tag
old_tags m cs = filter_map (λ (c : TagChange). get m c.prefix) cs

-- as many changed prefixes had the tag as have it, by the tags that they had
abbrev pub is_left_of : FinMap prefix_cmp Tag → List Tag → Tag → Bool
is_left_of m old t = nat_eq (count_by (same_tag t) old) (members m t)

-- those of these tags that no other prefix has, ascending
abbrev pub emptied_of : FinMap prefix_cmp Tag → List Tag → List Tag
emptied_of m old = filter (is_left_of m old) (ordered tag_cmp old)

-- as many changed prefixes had the tag as have it
abbrev pub is_left : FinMap prefix_cmp Tag → List TagChange → Tag → Bool
is_left m cs = is_left_of m (old_tags m cs)

-- the tags of changed prefixes that no other prefix has, ascending
abbrev pub emptied : FinMap prefix_cmp Tag → List TagChange → List Tag
emptied m cs = emptied_of m (old_tags m cs)
