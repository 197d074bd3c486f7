-- Building the rules of pairs one after the other (this exchange's own rule).
use Rattle.std.specs.Prelude.{◌≡◌, ℕ, ◌+◌, ◌-◌, ◌^◌, ◌≤◌, ◌<◌, min, Bool, List, ◌∷◌, ◌++◌, length, map, find, sum_by, Option, Some}
use Rattle.std.specs.FinMap.{FinMap, get}
use Rattle.std.specs.Option.{option_and_then, option_map_or}
use Rattle.std.specs.Ordering.{is_lt}
use Rattle.block_build.specs.Installed.{count_at, rule_count}
use Rattle.block_build.specs.Lent.{AreOf, Lent}
use Rattle.block_build.specs.declared.block.BuildFault.{BuildFault}
use Rattle.block_build.specs.declared.block.BuildFault.TheVariants as build
use Rattle.events.specs.Sound.{IsRight, part_of}
use Rattle.events.specs.Tags.{same_tag}
use Rattle.exchange_laws.specs.Whole.{IsWhole}
use Rattle.fast_path.specs.Committing.{Block, block_count}
use Rattle.fast_path.specs.Grouping.{Known}
use Rattle.fast_path.specs.Plans.{pair_of}
use Rattle.fast_path.specs.declared.planned.Class.{Class}
use Rattle.fast_path.specs.declared.planned.FastFault.{FastFault}
use Rattle.fast_path.specs.declared.planned.FastFault.TheVariants.{NoNextHop, TableFull, Memory}
use Rattle.net_types.specs.Answers.{Policies}
use Rattle.net_types.specs.Cells.{cell_atoms}
use Rattle.net_types.specs.Keys.{pair_cmp, tag_cmp}
use Rattle.net_types.specs.Meets.{meets}
use Rattle.net_types.specs.Sets.{IsRising, Member}
use Rattle.net_types.specs.declared.address.PortNo.{PortNo}
use Rattle.net_types.specs.declared.address.Tag.{Tag}
use Rattle.net_types.specs.declared.route.Part.{Part}
use Rattle.net_types.specs.declared.route.PortInfo.{PortInfo}
use Rattle.net_types.specs.declared.rule.Pair.{Pair}
use Rattle.net_types.specs.declared.rule.Rule.{Rule}
use Rattle.registry.specs.Registered.{Registered, port_of}

-- the tag of one class comes before that of another
abbrev pub is_class_before : Class → Class → Bool
is_class_before c d = is_lt (tag_cmp c.tag d.tag)

-- the tags of classes rise
abbrev pub AreInOrder : List Class → Type 0
AreInOrder cs = IsRising is_class_before cs

-- the class is that of the tag
abbrev pub is_class_of : Tag → Class → Bool
is_class_of t c = same_tag c.tag t

-- the signature of a tag afterwards: a fresh one has that of its class
abbrev pub sig_after : Known → List Class → Tag → Option (List Part)
sig_after k fresh t = option_map_or (λ (c : Class). Some c.sig) (find (is_class_of t) fresh) (get k.kept t)

-- the part of the owner of a pair's port
abbrev pub part_at : Registered → Known → List Class → Pair → Option Part
part_at names k fresh pair = option_and_then (λ (q : PortInfo). option_and_then (λ sig. part_of sig q.owner) (sig_after k fresh pair.tag)) (port_of names pair.port)

-- Of what rules are built: the part of each pair, and the classifiers.
pub record Site : Type 0 where
  pub part : Pair → Option Part
  pub all : List Lent

abbrev pub site_of : Registered → Known → List Class → List Lent → Site
site_of names k fresh all = record { part = part_at names k fresh; all = all }

-- the rules of a pair can be built: there is a part, and it is whole
pub record HasPart (site : Site) (pair : Pair) : Type 0 where
  pub part : Part
  pub is : site.part pair ≡ Some part
  pub whole : IsWhole (length site.all) part

-- the rules are right for the pair's part, by all policies whose classifiers these are
pub record IsBlockFor (site : Site) (pair : Pair) (rules : List Rule) : Type 0 where
  pub part : Part
  pub is : site.part pair ≡ Some part
  pub right : (ps : Policies) → AreOf ps site.all → IsRight ps part pair.port rules

-- so many rules are no more than the pair's cells, by all policies whose classifiers these are
pub record IsWithinCells (site : Site) (pair : Pair) (count : ℕ) : Type 0 where
  pub part : Part
  pub is : site.part pair ≡ Some part
  pub within : (ps : Policies) → AreOf ps site.all → count ≤ length (meets (cell_atoms ps pair.port part))

-- more rules of a part than the room, and no more than its cells, by all policies whose classifiers these are
abbrev pub IsWideBy : List Lent → PortNo → Part → ℕ → BuildFault → Type 0
IsWideBy all port part room (build.Wide rules) = (room < rules) × ((ps : Policies) → AreOf ps all → rules ≤ length (meets (cell_atoms ps port part)))
IsWideBy all port part room build.Memory = Unit {0}

-- more rules than the room: those that were built, and those of the pair, which are within its cells
pub record IsOver (site : Site) (pair : Pair) (built room rules : ℕ) : Type 0 where
  pub count : ℕ
  pub within : IsWithinCells site pair count
  pub most : rules ≤ built + count
  pub over : room < rules

-- why the rules of a pair aren't built beside others
abbrev pub IsFaultBeside : Site → Pair → ℕ → ℕ → BuildFault → Type 0
IsFaultBeside site pair built room (build.Wide rules) = IsOver site pair built room rules
IsFaultBeside site pair built room build.Memory = Unit {0}

-- each of the blocks is right for its pair
abbrev pub AreRightFor : Site → List Block → Type 0
AreRightFor site blocks = (b : Block) → Member b blocks → IsBlockFor site b.0 b.1

-- the blocks of the pairs, in order, which have room
pub record AreBlocksFor (site : Site) (pairs : List Pair) (room : ℕ) (blocks : List Block) : Type 0 where
  pub pairs_are : map pair_of blocks ≡ pairs
  pub right : AreRightFor site blocks
  pub few : block_count blocks ≤ room

-- more rules than the room: the blocks of the first pairs, and those of the next one
pub record IsTooMany (site : Site) (pairs : List Pair) (room rules : ℕ) : Type 0 where
  pub blocks : List Block
  pub pair : Pair
  pub rest : List Pair
  pub pairs_are : map pair_of blocks ++ pair ∷ rest ≡ pairs
  pub right : AreRightFor site blocks
  pub last : IsOver site pair (block_count blocks) room rules

-- why the rules of pairs aren't built
abbrev pub IsFaultFor : Site → List Pair → ℕ → BuildFault → Type 0
IsFaultFor site pairs room (build.Wide rules) = IsTooMany site pairs room rules
IsFaultFor site pairs room build.Memory = Unit {0}

-- the rules of the table but for those of some pairs
abbrev pub rules_left : FinMap pair_cmp (List Rule) → List Pair → ℕ
rules_left table drops = rule_count table - sum_by (count_at table) drops

-- so the table would have more than it has room for
abbrev pub refused : BuildFault → ℕ → ℕ → FastFault
refused (build.Wide rules) left capacity = TableFull (min (2 ^ 64 - 1) (left + rules)) capacity
refused build.Memory left capacity = Memory

-- there are too many rules beside those that are left
pub record IsFullBy (site : Site) (pairs : List Pair) (left capacity rules : ℕ) : Type 0 where
  pub built : ℕ
  pub many : IsTooMany site pairs (capacity - left) built
  pub most : rules ≤ left + built
  pub over : capacity < rules

-- why the rules of pairs aren't put into the table
abbrev pub IsRefusedFor : Site → List Pair → ℕ → ℕ → FastFault → Type 0
IsRefusedFor site pairs left capacity (NoNextHop need free) = ⊥
IsRefusedFor site pairs left capacity (TableFull rules room) = (room ≡ capacity) × IsFullBy site pairs left capacity rules
IsRefusedFor site pairs left capacity Memory = Unit {0}
