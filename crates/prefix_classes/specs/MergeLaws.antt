-- What the tags are once classes are merged.
use Rattle.std.specs.Prelude.{◌≡◌, ◌↔◌, ◌<◌, List, filter, Option, Some, None}
use Rattle.std.specs.FinMap.{FinMap, get}
use Rattle.std.specs.List.{filter_map}
use Rattle.std.specs.Option.{option_and_then}
use Rattle.net_types.specs.Attributes.{same_signature}
use Rattle.net_types.specs.Keys.{prefix_cmp, tag_cmp}
use Rattle.net_types.specs.Maps.{ordered, tabulate}
use Rattle.net_types.specs.Routes.{first_of_list}
use Rattle.net_types.specs.Sets.{Member}
use Rattle.net_types.specs.declared.address.Tag.{Tag}
use Rattle.net_types.specs.declared.prefix.Prefix.{Prefix}
use Rattle.net_types.specs.declared.route.Part.{Part}
use Rattle.prefix_classes.specs.Classes.{members}
use Rattle.prefix_classes.specs.Merging.{moved, IsLeastTag, IsMergeOf}

-- the signature that is kept for a prefix's tag
abbrev pub sig_at : FinMap prefix_cmp Tag → FinMap tag_cmp (List Part) → Prefix → Option (List Part)
sig_at tags kept p = option_and_then (get kept) (get tags p)

-- a prefix with a kept signature has the least tag of that signature
abbrev pub MergedHaveLeastTags : Type 0
MergedHaveLeastTags =
    (tags : FinMap prefix_cmp Tag) (kept : FinMap tag_cmp (List Part)) (moves : List (Prefix × Tag)) → IsMergeOf tags kept moves
    → (p : Prefix) (sig : List Part) → sig_at tags kept p ≡ Some sig → (t : Tag) × (get (moved tags moves) p ≡ Some t) × IsLeastTag tags kept sig t

-- two prefixes with kept signatures have the same tag exactly where the signatures are the same
abbrev pub MergedShareTags : Type 0
MergedShareTags =
    (tags : FinMap prefix_cmp Tag) (kept : FinMap tag_cmp (List Part)) (moves : List (Prefix × Tag)) → IsMergeOf tags kept moves
    → (p q : Prefix) (one other : List Part) → sig_at tags kept p ≡ Some one → sig_at tags kept q ≡ Some other
    → (get (moved tags moves) p ≡ get (moved tags moves) q) ↔ (one ≡ other)

-- a prefix keeps its kept signature, and its having a tag or none
abbrev pub MergedKeepSignatures : Type 0
MergedKeepSignatures =
    (tags : FinMap prefix_cmp Tag) (kept : FinMap tag_cmp (List Part)) (moves : List (Prefix × Tag)) → IsMergeOf tags kept moves
    → (p : Prefix) → sig_at (moved tags moves) kept p ≡ sig_at tags kept p

-- the least tag of each signature has members
abbrev pub LeastTagsHaveMembers : Type 0
LeastTagsHaveMembers =
    (tags : FinMap prefix_cmp Tag) (kept : FinMap tag_cmp (List Part)) (moves : List (Prefix × Tag)) → IsMergeOf tags kept moves
    → (sig : List Part) (t : Tag) → IsLeastTag tags kept sig t → 0 < members (moved tags moves) t

-- only the least tag of a signature has members
abbrev pub MembersHaveLeastTags : Type 0
MembersHaveLeastTags =
    (tags : FinMap prefix_cmp Tag) (kept : FinMap tag_cmp (List Part)) (moves : List (Prefix × Tag)) → IsMergeOf tags kept moves
    → (t : Tag) (sig : List Part) → get kept t ≡ Some sig → 0 < members (moved tags moves) t → IsLeastTag tags kept sig t

-- exactly the prefixes of the moves have another tag than before
abbrev pub OnlyMovedDiffer : Type 0
OnlyMovedDiffer =
    (tags : FinMap prefix_cmp Tag) (kept : FinMap tag_cmp (List Part)) (moves : List (Prefix × Tag)) → IsMergeOf tags kept moves
    → (p : Prefix) (t : Tag) → Member (p, t) moves ↔ ((get (moved tags moves) p ≡ Some t) × (¬ (get tags p ≡ Some t)))

-- exactly these prefixes have tags, and what is kept for the tag of each is its signature
pub record HaveSignatures (tags : FinMap prefix_cmp Tag) (kept : FinMap tag_cmp (List Part)) (ps : List Prefix) (sig_of : Prefix → List Part) : Type 0 where
  pub tagged : (p : Prefix) → Member p ps → sig_at tags kept p ≡ Some (sig_of p)
  pub others : (p : Prefix) → ¬ Member p ps → get tags p ≡ None

-- the least tag of the prefixes with a signature
abbrev pub least_tag : FinMap prefix_cmp Tag → List Prefix → (Prefix → List Part) → List Part → Option Tag
least_tag tags ps sig_of sig = first_of_list (ordered tag_cmp (filter_map (get tags) (filter (λ p. same_signature (sig_of p) sig) ps)))

-- each of these prefixes has the least tag of those with its signature, and no other prefix has a tag
abbrev pub MergedAreTabulated : Type 0
MergedAreTabulated =
    (tags : FinMap prefix_cmp Tag) (kept : FinMap tag_cmp (List Part)) (moves : List (Prefix × Tag)) → IsMergeOf tags kept moves
    → (ps : List Prefix) (sig_of : Prefix → List Part) → HaveSignatures tags kept ps sig_of
    → moved tags moves ≡ tabulate prefix_cmp ps (λ p. least_tag tags ps sig_of (sig_of p))
