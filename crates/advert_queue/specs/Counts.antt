-- How many entries have each tag.
use Rattle.std.specs.Prelude.{◌≡◌, ℕ, ◌+◌, ◌<◌, Bool, not, nat_eq, List, [], ◌∷◌, Option, Some, None, IsTrue, if◌then◌else◌}
use Rattle.std.specs.FinMap.{FinMap, entries}
use Rattle.std.specs.FinMap.Entries.{find, is_sorted}
use Rattle.events.specs.Tags.{same_tag}
use Rattle.events.specs.declared.Entry.{Entry}
use Rattle.net_types.specs.Keys.{prefix_cmp, tag_cmp}
use Rattle.net_types.specs.declared.address.Tag.{Tag}
use Rattle.advert_queue.specs.declared.counts.Side.{Side}
use Rattle.advert_queue.specs.declared.counts.Side.TheVariants.{Told, Present}
use Rattle.advert_queue.specs.declared.counts.Uses.{Uses}

-- the sum of a number for each value
abbrev pub total : {K V : Type 0} → (V → ℕ) → List (K × V) → ℕ
total f [] = 0
total f (e ∷ es) = f e.1 + total f es

-- 1 where it is the tag, else 0
abbrev pub is_tag : Tag → Tag → ℕ
is_tag t u = if same_tag u t then 1 else 0

-- 1 where it is the tag, 0 where it is another one or none
abbrev pub has_tag : Tag → Option Tag → ℕ
has_tag t None = 0
has_tag t (Some u) = is_tag t u

-- 1 where it is the entry's tag, else 0
abbrev pub is_tag_of : Tag → Entry → ℕ
is_tag_of t e = is_tag t e.tag

-- how many entries have the tag
abbrev pub uses : FinMap prefix_cmp Entry → Tag → ℕ
uses m t = total (is_tag_of t) (entries m)

-- the numbers that are kept, 0 where none are
abbrev pub uses_in : Option Uses → Uses
uses_in None = record { told = 0; present = 0 }
uses_in (Some u) = u

-- how many of those that were told, or of those that are present
abbrev pub number : Side → Uses → ℕ
number Told u = u.told
number Present u = u.present

-- the number that is kept for a tag, 0 where none is
abbrev pub counted : Side → List (Tag × Uses) → Tag → ℕ
counted side cs t = number side (uses_in (find tag_cmp t cs))

-- the tag of its numbers
abbrev pub entry_tag : Tag × Uses → Tag
entry_tag c = c.0

-- some entry that was told has the tag
abbrev pub is_told_tag : Tag × Uses → Bool
is_told_tag c = not (nat_eq c.1.told 0)

-- each tag that has numbers is in use
abbrev pub AreUsed : List (Tag × Uses) → Type 0
AreUsed cs = (t : Tag) (u : Uses) → find tag_cmp t cs ≡ Some u → 0 < u.told + u.present

-- the first of what was told, the second of what is present
abbrev pub by_side : (Tag → ℕ) → (Tag → ℕ) → Side → Tag → ℕ
by_side told present Told t = told t
by_side told present Present t = present t

-- The tags rise, those that have numbers are in use, and each tag, whether it has some or not, is counted rightly.
pub record AreCounts (cs : List (Tag × Uses)) (right : Side → Tag → ℕ) : Type 0 where
  pub rising : IsTrue (is_sorted tag_cmp cs)
  pub used : AreUsed cs
  pub counts : (side : Side) (t : Tag) → counted side cs t ≡ right side t

abbrev pub other : Side → Side
other Told = Present
other Present = Told

-- on one side, what had one tag, or none, has another one, or none
pub record IsRecounted (side : Side) (cs ds : List (Tag × Uses)) (before after : Option Tag) : Type 0 where
  pub rising : IsTrue (is_sorted tag_cmp ds)
  pub used : AreUsed ds
  pub counts : (t : Tag) → counted side ds t + has_tag t before ≡ counted side cs t + has_tag t after
  pub others : (t : Tag) → counted (other side) ds t ≡ counted (other side) cs t
