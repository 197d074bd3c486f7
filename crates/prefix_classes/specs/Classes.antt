-- The tags of prefixes, and the signatures that are kept for tags (this exchange's own rule).
use Rattle.std.specs.Prelude.{◌≡◌, ℕ, ◌+◌, ◌<◌, ◌≤◌, Bool, nat_lt, List, [], ◌∷◌, Option, Some, None, IfSome, if◌then◌else◌}
use Rattle.std.specs.List.{list_any}
use Rattle.std.specs.Ordering.{eq_by_cmp}
use Rattle.std.specs.FinMap.{FinMap, entries, get, insert, remove}
use Rattle.net_types.specs.Keys.{prefix_cmp, tag_cmp}
use Rattle.net_types.specs.Sets.{IsRising, Member}
use Rattle.net_types.specs.declared.address.Tag.{Tag}
use Rattle.net_types.specs.declared.prefix.Prefix.{Prefix}
use Rattle.net_types.specs.declared.route.Part.{Part}

-- each prefix's tag, each kept tag's signature, and how many new prefixes and tags go in without memory
pub record Classes : Type 0 where
  pub tag : FinMap prefix_cmp Tag
  pub kept : FinMap tag_cmp (List Part)
  pub prefixes : ℕ
  pub tags : ℕ

-- 1 where it is the tag, else 0
abbrev pub is_tag : Tag → Tag → ℕ
is_tag t u = if eq_by_cmp tag_cmp t u then 1 else 0

-- 1 where it is the tag, 0 where it is another one or none
abbrev pub has_tag : Tag → Option Tag → ℕ
has_tag t None = 0
has_tag t (Some u) = is_tag t u

-- how many entries have the tag
abbrev pub count_of : Tag → List (Prefix × Tag) → ℕ
count_of t [] = 0
count_of t (e ∷ es) = is_tag t e.1 + count_of t es

-- how many prefixes have the tag
abbrev pub members : FinMap prefix_cmp Tag → Tag → ℕ
members m t = count_of t (entries m)

-- the tags after these prefixes are given the tag
abbrev pub given : Tag → List Prefix → FinMap prefix_cmp Tag → FinMap prefix_cmp Tag
given t [] m = m
given t (p ∷ ps) m = given t ps (insert m p t)

-- 1 where there is no tag, else 0
abbrev pub missing : Option Tag → ℕ
missing None = 1
missing (Some t) = 0

-- how many of the prefixes have no tag, each counted once, however often it stands there
abbrev pub new_ones : FinMap prefix_cmp Tag → List Prefix → ℕ
new_ones m [] = 0
new_ones m (p ∷ ps) = (if list_any (eq_by_cmp prefix_cmp p) ps then 0 else missing (get m p)) + new_ones m ps

-- a greater tag than this one, where there is one
abbrev pub IsAbove : Option Tag → Tag → Type 0
IsAbove after t = IfSome after (λ (a : Tag). a.0 < t.0)

-- the least tag that has members, or the least such tag greater than another
pub record IsNextTag (m : FinMap prefix_cmp Tag) (after : Option Tag) (t : Tag) : Type 0 where
  pub used : 0 < members m t
  pub above : IsAbove after t
  pub least : (u : Tag) → 0 < members m u → IsAbove after u → t.0 ≤ u.0

-- the signatures without those of these tags
abbrev pub forgotten : FinMap tag_cmp (List Part) → List Tag → FinMap tag_cmp (List Part)
forgotten kept [] = kept
forgotten kept (t ∷ ts) = forgotten (remove kept t) ts

-- no prefix has one of these tags
abbrev pub HaveNoMembers : FinMap prefix_cmp Tag → List Tag → Type 0
HaveNoMembers m ts = (t : Tag) → Member t ts → members m t ≡ 0

-- one tag is less than another
abbrev pub is_less : Tag → Tag → Bool
is_less t u = nat_lt t.0 u.0

-- the tags that have members, ascending
pub record AreUsedTags (m : FinMap prefix_cmp Tag) (ts : List Tag) : Type 0 where
  pub rising : IsRising is_less ts
  pub used : (t : Tag) → Member t ts → 0 < members m t
  pub all : (t : Tag) → 0 < members m t → Member t ts
