-- What committing a plan does to the classes, the pool and the table.
use Rattle.std.specs.Prelude.{◌≡◌, ℕ, ◌≤◌, ◌<◌, ◌+◌, Bool, true, false, List, [], ◌∷◌, length, map, Option, Some, None, is_some, IfSome, sum_by, if◌then◌else◌}
use Rattle.std.specs.FinMap.{FinMap, get, insert, remove}
use Rattle.net_types.specs.Attributes.{same_option}
use Rattle.net_types.specs.Keys.{pair_cmp, prefix_cmp, tag_cmp}
use Rattle.net_types.specs.Sets.{Member}
use Rattle.net_types.specs.declared.address.Tag.{Tag}
use Rattle.net_types.specs.declared.prefix.Prefix.{Prefix}
use Rattle.net_types.specs.declared.route.Part.{Part}
use Rattle.net_types.specs.declared.rule.Pair.{Pair}
use Rattle.net_types.specs.declared.rule.Rule.{Rule}
use Rattle.events.specs.After.{without_pairs}
use Rattle.events.specs.Tags.{same_tag}
use Rattle.events.specs.declared.TagChange.{TagChange}
use Rattle.next_hop_pool.specs.Free.{IsTag, Tags, is_taken, marked}
use Rattle.block_build.specs.Installed.{Installed, rule_count}
use Rattle.prefix_classes.specs.Classes.{Classes, given, members}
use Rattle.prefix_classes.specs.Laws.{AreRising, changed}
use Rattle.advert_queue.specs.Advertised.{Advertised}
use Rattle.fast_path.specs.Grouping.{known_by}
use Rattle.fast_path.specs.Offers.{AreTo, HaveRoom}
use Rattle.fast_path.specs.declared.planned.Class.{Class}
use Rattle.fast_path.specs.declared.planned.Plan.{Plan}

-- ---- signatures

-- a fresh tag with its signature
abbrev pub Kept : Type 0
Kept = Tag × List Part

-- fresh tags with their signatures, one by one
abbrev pub kept_of : List Tag → List (List Part) → List Kept
kept_of [] sigs = []
kept_of (t ∷ ts) [] = []
kept_of (t ∷ ts) (sig ∷ sigs) = (t, sig) ∷ kept_of ts sigs

-- the change gives the tag
abbrev pub gives : Tag → TagChange → Bool
gives t c = same_option same_tag c.tag (Some t)

-- the prefixes that changes give the tag
abbrev pub members_of : List TagChange → Tag → List Prefix
members_of [] t = []
members_of (c ∷ cs) t = if gives t c then c.prefix ∷ members_of cs t else members_of cs t

-- a fresh tag with its signature and the prefixes that get it
abbrev pub class_of : List TagChange → Kept → Class
class_of cs k = record { tag = k.0; sig = k.1; members = members_of cs k.0 }

-- so it is for each of these
abbrev pub classes_of : List TagChange → List Kept → List Class
classes_of cs ks = map (class_of cs) ks

-- the tags with the signatures alone
abbrev pub signed : List Class → List Kept
signed cs = map (λ (c : Class). let k : Kept = (c.tag, c.sig) in k) cs

-- the tags have numbers below this one
abbrev pub HaveTagsBelow : ℕ → List Class → Type 0
HaveTagsBelow n cs = (c : Class) → Member c cs → c.tag.0 < n

-- how many members there are in all
abbrev pub member_count : List Class → ℕ
member_count [] = 0
member_count (c ∷ cs) = length c.members + member_count cs

-- the tags of these
abbrev pub tags_of : List Kept → List Tag
tags_of fs = map (λ (f : Kept). f.0) fs

-- the signatures with those of fresh tags
abbrev pub kept_with : FinMap tag_cmp (List Part) → List Kept → FinMap tag_cmp (List Part)
kept_with m [] = m
kept_with m (f ∷ fs) = kept_with (insert m f.0 f.1) fs

-- each of the tags is none that is kept when its turn comes
abbrev pub AreUnkept : FinMap tag_cmp (List Part) → List Kept → Type 0
AreUnkept m [] = Unit {0}
AreUnkept m (f ∷ fs) = (get m f.0 ≡ None) × AreUnkept (insert m f.0 f.1) fs

-- the signatures without those of some tags
abbrev pub kept_without : FinMap tag_cmp (List Part) → List Tag → FinMap tag_cmp (List Part)
kept_without m [] = m
kept_without m (t ∷ ts) = kept_without (remove m t) ts

-- ---- tags of prefixes

-- a change as the classes see it
abbrev pub change_of : TagChange → Prefix × Option Tag
change_of c = (c.prefix, c.tag)

-- the tags of the prefixes with all changes made
abbrev pub tags_with : FinMap prefix_cmp Tag → List TagChange → FinMap prefix_cmp Tag
tags_with m cs = changed m (map change_of cs)

-- the tags of the prefixes once each of the tags is given to its members
abbrev pub given_all : FinMap prefix_cmp Tag → List Class → FinMap prefix_cmp Tag
given_all m [] = m
given_all m (c ∷ cs) = given_all (given c.tag c.members m) cs

-- the tags without that of a prefix that is to have none
abbrev pub untagged_one : FinMap prefix_cmp Tag → TagChange → FinMap prefix_cmp Tag
untagged_one m c = if is_some c.tag then m else remove m c.prefix

-- the tags without those of prefixes that are to have none
abbrev pub untagged : FinMap prefix_cmp Tag → List TagChange → FinMap prefix_cmp Tag
untagged m [] = m
untagged m (c ∷ cs) = untagged (untagged_one m c) cs

-- each new tag is one of these
abbrev pub HaveTags : List Tag → List TagChange → Type 0
HaveTags ts cs = (c : TagChange) → Member c cs → IfSome c.tag (λ t. Member t ts)

-- no prefix has one of the tags
abbrev pub AreUnused : FinMap prefix_cmp Tag → List Tag → Type 0
AreUnused m ts = (t : Tag) → Member t ts → members m t ≡ 0

-- ---- the pool

-- the pool with these tags taken, or free
abbrev pub marked_all : Tags → List Tag → Bool → Tags
marked_all p [] b = p
marked_all p (t ∷ ts) b = marked_all (marked p t b) ts b

-- each of the tags is taken when its turn comes
abbrev pub AreTaken : Tags → List Tag → Type 0
AreTaken p [] = Unit {0}
AreTaken p (t ∷ ts) = IsTag p t × (is_taken p t ≡ true) × AreTaken (marked p t false) ts

-- each of the tags is free when its turn comes
abbrev pub AreFree : Tags → List Tag → Type 0
AreFree p [] = Unit {0}
AreFree p (t ∷ ts) = IsTag p t × (is_taken p t ≡ false) × AreFree (marked p t true) ts

-- ---- the table

-- the rules of a pair
abbrev pub Block : Type 0
Block = Pair × List Rule

-- the table with these rules of pairs
abbrev pub with_blocks : FinMap pair_cmp (List Rule) → List Block → FinMap pair_cmp (List Rule)
with_blocks m [] = m
with_blocks m (b ∷ bs) = with_blocks (insert m b.0 b.1) bs

-- how many rules blocks have
abbrev pub block_count : List Block → ℕ
block_count bs = sum_by (λ (b : Block). length b.1) bs

-- The plan can be committed: its fresh tags are free and not kept, each prefix whose tag becomes another is a member of the
-- fresh tag that it gets, or gets none, its dead tags will be taken and no prefix's, and there is room for all that is put in
-- and for all that is offered.
pub record CanCommit (plan : Plan) (classes : Classes) (pool : Tags) (switch : Installed) (adverts : Advertised) : Type 0 where
  pub unkept : AreUnkept (known_by plan.named classes).kept (signed plan.fresh.items)
  pub tags_room : HaveTagsBelow classes.tags plan.fresh.items
  pub rising : AreRising (map change_of plan.tags)
  pub fresh : HaveTags (tags_of (signed plan.fresh.items)) plan.tags
  pub members : plan.fresh.items ≡ classes_of plan.tags (signed plan.fresh.items)
  pub prefixes_room : length plan.tags ≤ classes.prefixes
  pub unused : AreUnused (tags_with classes.tag plan.tags) plan.dead.items
  pub free : AreFree pool (tags_of (signed plan.fresh.items))
  pub taken : AreTaken (marked_all pool (tags_of (signed plan.fresh.items)) true) plan.dead.items
  pub pairs_room : length plan.blocks.items ≤ switch.room
  pub few : rule_count (without_pairs switch.table plan.drops) + block_count plan.blocks.items ≤ switch.capacity
  pub known : AreTo (length adverts.told) plan.offers.items
  pub offers_room : HaveRoom adverts plan.offers.items
