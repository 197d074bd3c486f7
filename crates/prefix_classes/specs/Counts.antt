-- The numbers of members beside the tags of prefixes.
use Rattle.std.specs.Prelude.{◌≡◌, ℕ, ◌+◌, nat_lt, Bool, true, List, filter, map, Option, Some, None}
use Rattle.std.specs.FinMap.{FinMap, from_sorted}
use Rattle.std.specs.FinMap.Entries.{find, is_sorted}
use Rattle.net_types.specs.Keys.{prefix_cmp, tag_cmp}
use Rattle.net_types.specs.declared.address.Tag.{Tag}
use Rattle.net_types.specs.declared.route.Part.{Part}
use Rattle.prefix_map.specs.Held.{Held}
use Rattle.prefix_classes.specs.Classes.{Classes, has_tag, members}
use Rattle.prefix_classes.specs.declared.members.Kept.{Kept}

-- the number that is kept of a tag, 0 where nothing is
abbrev pub members_of : Option Kept → ℕ
members_of None = 0
members_of (Some k) = k.members

-- the number of members that the entries give a tag
abbrev pub counted : List (Tag × Kept) → Tag → ℕ
counted es t = members_of (find tag_cmp t es)

-- the tag of an entry
abbrev pub tag_of : Tag × Kept → Tag
tag_of e = e.0

-- the entry's tag has members
abbrev pub has_members : Tag × Kept → Bool
has_members e = nat_lt 0 e.1.members

-- the tags of those entries whose tags have members
abbrev pub used_in : List (Tag × Kept) → List Tag
used_in es = map tag_of (filter has_members es)

-- the entry's tag is greater than this one, where there is one
abbrev pub is_above : Option Tag → Tag × Kept → Bool
is_above None e = true
is_above (Some a) e = nat_lt a.0 e.0.0

-- a tag with its signature alone
abbrev pub sig_entry : Tag × Kept → Tag × List Part
sig_entry e = (e.0, e.1.sig)

-- the signatures of the kept tags
abbrev pub sigs_of : List (Tag × Kept) → FinMap tag_cmp (List Part)
sigs_of es = from_sorted (map sig_entry es)

-- The tags rise, and each tag, kept or not, has as many members as are counted for it: so each tag of a prefix is kept.
pub record IsCounted (m : FinMap prefix_cmp Tag) (es : List (Tag × Kept)) : Type 0 where
  pub sorted : is_sorted tag_cmp es ≡ true
  pub counts : (t : Tag) → counted es t ≡ members m t

-- a prefix that had one tag, or none, has another one, or none, and the signatures are the same
pub record IsRecounted (es fs : List (Tag × Kept)) (before after : Option Tag) : Type 0 where
  pub sorted : is_sorted tag_cmp fs ≡ true
  pub sigs : sigs_of fs ≡ sigs_of es
  pub counts : (t : Tag) → counted fs t + has_tag t before ≡ counted es t + has_tag t after

-- what the classes are seen as
abbrev pub classes_of : Held Tag → List (Tag × Kept) → ℕ → Classes
classes_of held es room = record { tag = held.map; kept = sigs_of es; prefixes = held.room; tags = room }
