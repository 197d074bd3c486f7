-- How the numbers of members change with the tags of prefixes.
use Rattle.std.specs.Prelude.{◌≡◌, ◌↔◌, ℕ, ◌+◌, ◌≤◌, List, [], ◌∷◌, map, length, Option, Some, None, unwrap_or}
use Rattle.std.specs.FinMap.{FinMap, get, insert, remove, find}
use Rattle.net_types.specs.Keys.{prefix_cmp}
use Rattle.net_types.specs.Sets.{IsRising, Member}
use Rattle.net_types.specs.UpdateSpelling.{is_before}
use Rattle.net_types.specs.declared.address.Tag.{Tag}
use Rattle.net_types.specs.declared.prefix.Prefix.{Prefix}
use Rattle.prefix_classes.specs.Classes.{has_tag, is_tag, members, new_ones}

-- a prefix that is given a tag counts for it, and no more for the one it had
abbrev pub MembersAfterInsert : Type 0
MembersAfterInsert = (m : FinMap prefix_cmp Tag) (p : Prefix) (t u : Tag) → members (insert m p t) u + has_tag u (get m p) ≡ members m u + is_tag u t

-- a prefix whose tag is taken away counts no more for it
abbrev pub MembersAfterRemove : Type 0
MembersAfterRemove = (m : FinMap prefix_cmp Tag) (p : Prefix) (u : Tag) → members (remove m p) u + has_tag u (get m p) ≡ members m u

-- a tag has no members exactly where no prefix has it
abbrev pub NoMembersNoPrefix : Type 0
NoMembersNoPrefix = (m : FinMap prefix_cmp Tag) (t : Tag) → (members m t ≡ 0) ↔ ((p : Prefix) → ¬ (get m p ≡ Some t))

-- no more prefixes are new than there are prefixes
abbrev pub NewOnesAreFew : Type 0
NewOnesAreFew = (m : FinMap prefix_cmp Tag) (ps : List Prefix) → new_ones m ps ≤ length ps

-- a prefix with its new tag, or with none
abbrev pub Change : Type 0
Change = Prefix × Option Tag

-- the tags with one change made
abbrev pub with_change : FinMap prefix_cmp Tag → Prefix → Option Tag → FinMap prefix_cmp Tag
with_change m p None = remove m p
with_change m p (Some t) = insert m p t

-- the tags with all changes made
abbrev pub changed : FinMap prefix_cmp Tag → List Change → FinMap prefix_cmp Tag
changed m [] = m
changed m (c ∷ cs) = changed (with_change m c.0 c.1) cs

-- the changes are at different prefixes, ascending
abbrev pub AreRising : List Change → Type 0
AreRising cs = IsRising is_before (map (λ c. c.0) cs)

-- of how many changed prefixes it is the tag before
abbrev pub left : FinMap prefix_cmp Tag → List Change → Tag → ℕ
left m [] t = 0
left m (c ∷ cs) t = has_tag t (get m c.0) + left m cs t

-- of how many changed prefixes it is the tag afterwards
abbrev pub joined : List Change → Tag → ℕ
joined [] t = 0
joined (c ∷ cs) t = has_tag t c.1 + joined cs t

-- after changes a tag has the members it had, less those that leave, and those that join
abbrev pub ChangesAreCounted : Type 0
ChangesAreCounted = (m : FinMap prefix_cmp Tag) (cs : List Change) (t : Tag) → AreRising cs → members (changed m cs) t + left m cs t ≡ members m t + joined cs t

-- after changes a prefix has the tag of its change, or else the one it had
abbrev pub TagsAfterChanges : Type 0
TagsAfterChanges = (m : FinMap prefix_cmp Tag) (cs : List Change) (p : Prefix) → AreRising cs → get (changed m cs) p ≡ unwrap_or (find prefix_cmp p cs) (get m p)

-- each changed prefix has its new tag, or none
abbrev pub ChangedHaveNewTags : Type 0
ChangedHaveNewTags = (m : FinMap prefix_cmp Tag) (cs : List Change) (p : Prefix) (after : Option Tag) → AreRising cs → Member (p, after) cs → get (changed m cs) p ≡ after

-- and all others have the tags they had
abbrev pub OthersKeepTheirs : Type 0
OthersKeepTheirs = (m : FinMap prefix_cmp Tag) (cs : List Change) (p : Prefix) → ((after : Option Tag) → ¬ Member (p, after) cs) → get (changed m cs) p ≡ get m p
