-- The groups of the prefixes that a line touches, by what is known of each: its tag, the signature kept for that tag, and its
-- signature afterwards (this exchange's own rule).
use Rattle.std.specs.Prelude.{Bool, true, false, ◌&&◌, not, List, [], ◌∷◌, ◌++◌, map, slice_get, Option, Some, None, if◌then◌else◌}
use Rattle.std.specs.FinMap.{FinMap, get}
use Rattle.std.specs.List.{list_any, position_from}
use Rattle.std.specs.Option.{option_and_then}
use Rattle.net_types.specs.Attributes.{same_option, same_signature}
use Rattle.net_types.specs.Keys.{prefix_cmp, tag_cmp}
use Rattle.net_types.specs.Signatures.{trimmed_part}
use Rattle.net_types.specs.declared.address.Pid.{Pid}
use Rattle.net_types.specs.declared.address.Tag.{Tag}
use Rattle.net_types.specs.declared.prefix.Prefix.{Prefix}
use Rattle.net_types.specs.declared.route.Part.{Part}
use Rattle.events.specs.After.{trimmed_kept}
use Rattle.events.specs.State.{first}
use Rattle.events.specs.Tags.{Group, same_group}
use Rattle.prefix_classes.specs.Classes.{Classes}
use Rattle.fast_path.specs.declared.fresh.Fresh.{Fresh}

-- what the groups are made of: the tag of each prefix, and the signature of each tag
pub record Known : Type 0 where
  pub tag : FinMap prefix_cmp Tag
  pub kept : FinMap tag_cmp (List Part)

-- the signatures that are kept, trimmed by whom a participant's policy names, where the line is one that says so
abbrev pub kept_by : Option (Pid × List Pid) → FinMap tag_cmp (List Part) → FinMap tag_cmp (List Part)
kept_by None kept = kept
kept_by (Some (who, named)) kept = trimmed_kept (record first { kept = kept }) who named

-- what classes know, once the signatures are trimmed
abbrev pub known_by : Option (Pid × List Pid) → Classes → Known
known_by named c = record { tag = c.tag; kept = kept_by named c.kept }

-- a part without the offers that don't count any more, where a participant's policy names these
abbrev pub part_by : Option (Pid × List Pid) → Part → Part
part_by None part = part
part_by (Some (who, named)) part = trimmed_part who named part

-- no participant has a best route
abbrev pub is_empty : List Part → Bool
is_empty [] = true
is_empty (p ∷ ps) = false

-- the signature is the one kept for the prefix's tag
abbrev pub is_kept_sig : Known → Prefix → List Part → Bool
is_kept_sig k p sig = same_option same_signature (option_and_then (get k.kept) (get k.tag p)) (Some sig)

-- a carried prefix whose signature isn't the one kept for its tag
abbrev pub is_moved : Known → Prefix → List Part → Bool
is_moved k p sig = not (is_empty sig) && not (is_kept_sig k p sig)

-- the group of a prefix
abbrev pub group_at : Known → Prefix → List Part → Group
group_at k p sig = record { before = get k.tag p; after = sig }

-- one group before others, where the prefix moves
abbrev pub group_before : Bool → Group → List Group → List Group
group_before true g gs = g ∷ gs
group_before false g gs = gs

-- the groups of the prefixes that move
abbrev pub moved_groups : Known → List Prefix → List (List Part) → List Group
moved_groups k [] sigs = []
moved_groups k (p ∷ ps) [] = []
moved_groups k (p ∷ ps) (sig ∷ sigs) = group_before (is_moved k p sig) (group_at k p sig) (moved_groups k ps sigs)

-- a group behind others, where it isn't among them
abbrev pub one_more : List Group → Group → List Group
one_more gs g = if list_any (same_group g) gs then gs else gs ++ g ∷ []

-- groups behind others, each once
abbrev pub more_groups : List Group → List Group → List Group
more_groups gs [] = gs
more_groups gs (x ∷ xs) = more_groups (one_more gs x) xs

-- the group that a class was made for
abbrev pub group_of_class : Fresh → Group
group_of_class f = record { before = f.before; after = f.sig }

-- the class was made for this tag before and this signature after
abbrev pub same_class : Option Tag → List Part → Fresh → Bool
same_class before sig f = same_group (record { before = before; after = sig }) (group_of_class f)

-- the first class was made for this tag before and this signature after
abbrev pub is_first_class : Option Tag → List Part → List Fresh → Bool
is_first_class before sig [] = false
is_first_class before sig (f ∷ fs) = same_class before sig f

-- the groups of classes
abbrev pub groups_of : List Fresh → List Group
groups_of fs = map group_of_class fs

-- a carried prefix keeps its tag where its signature is the one kept for it, and gets the tag of its class otherwise
abbrev pub tag_after : Known → List Fresh → List Tag → Prefix → List Part → Option Tag
tag_after k fs ts p sig =
    if is_empty sig then None
    else (if is_kept_sig k p sig then get k.tag p else option_and_then (slice_get ts) (position_from (same_class (get k.tag p) sig) 0 fs))
