-- What a function of the program answered, beside what reading gives.
use Rattle.std.specs.Prelude.{◌≡◌, ℕ, Bool, true, false, List, [], ◌∷◌, Result, Ok, Err, slice_index_or, ◌&&◌, ◌==◌, Option, Some, None, is_some, if◌then◌else◌}
use Rattle.std.specs.List.{list_any}
use Rattle.std.specs.Ordering.{eq_by_cmp}
use Rattle.net_types.specs.Keys.{prefix_cmp}
use Rattle.std.specs.List.Sorted.{IsNonDecreasingBy, IsPermutation}
use Rattle.grammar.specs.Reading as reading
use Rattle.grammar.specs.Reading.{Cause, Met, OutOfMemory, Tells}
use Rattle.net_types.specs.UpdateReading.{read_message}
use Rattle.bgp_update.specs.declared.fault.UpdateFault.{UpdateFault}
use Rattle.bgp_update.specs.declared.fault.UpdateFault.TheVariants.{Bad, Memory}
use Rattle.bgp_update.specs.declared.said.Said as said
use Rattle.net_types.specs.UpdateFormat.{Head, Parts, is_complete, longs, number_of, with_type, words}
use Rattle.net_types.specs.UpdateSpelling.{IsUpdateOf}
use Rattle.net_types.specs.UpdateValue as value
use Rattle.net_types.specs.UpdateValue.{said_path}
use Rattle.net_types.specs.declared.attribute.Attribute.{Attribute}
use Rattle.net_types.specs.declared.prefix.Prefix.{Prefix}
use Rattle.net_types.specs.declared.route.Attrs.{Attrs}
use Rattle.net_types.specs.declared.route.Unknown.{Unknown}
use Rattle.net_types.specs.declared.update.Fault.{Fault}
use Rattle.net_types.specs.declared.update.Fault.TheVariants.{MissingWellKnown}
use Rattle.net_types.specs.declared.update.Update.{Update}

-- what an error of the program says of the message
abbrev pub cause_of : UpdateFault → Cause Fault
cause_of (Bad f) = Met f
cause_of Memory = OutOfMemory

-- a call answers what the reader reads, unless memory runs out
abbrev pub Gives : {X Y : Type 0} → (X → Y) → Result X UpdateFault → Result Y Fault → Type 0
Gives view result read = reading.Gives cause_of view result read

-- the types that are marked
abbrev pub marked : List Bool → ℕ → Bool
marked seen number = slice_index_or seen number false

-- the numbers of so many octets each, 2 or 4
abbrev pub numbers_of : ℕ → List ℕ → List ℕ
numbers_of size = if size == 2 then words else longs

-- the list has the prefix
abbrev pub is_among : Prefix → List Prefix → Bool
is_among p ps = list_any (eq_by_cmp prefix_cmp p) ps

-- what stands in front of the announced prefixes
abbrev pub head_of : List Prefix → List Attribute → Head
head_of ps all = record { withdrawn = ps; attributes = all }

-- each attribute has a type of its own, none of those that have come
abbrev pub AreNew : (ℕ → Bool) → List Attribute → Type 0
AreNew seen [] = Unit {0}
AreNew seen (a ∷ more) = (seen (number_of a) ≡ false) × AreNew (with_type seen a) more

-- the program's value of what attributes say
abbrev pub said_view : said.Said → value.Said
said_view s = record {
  origin = s.origin;
  path = s.path;
  wide = s.wide;
  next_hop = s.next_hop;
  med = s.med;
  atomic = s.atomic;
  aggregator = s.aggregator;
  communities = s.communities;
  communities_partial = s.communities_partial;
  unknown = s.unknown.items;
}

-- the parts of a message
abbrev pub parts_of : List Prefix → List Attribute → List Prefix → Parts
parts_of withdrawn all announced = record { withdrawn = withdrawn; attributes = all; announced = announced }

-- the attributes are what was said, but for the order of the unknown ones, which ascend
pub record AreSorted (s : value.Said) (a : Attrs) : Type 0 where
  pub origin : s.origin ≡ Some a.origin
  pub path : said_path s ≡ Some a.path
  pub next_hop : s.next_hop ≡ Some a.next_hop
  pub med : a.med ≡ s.med
  pub atomic : a.atomic ≡ s.atomic
  pub aggregator : a.aggregator ≡ s.aggregator
  pub communities : a.communities ≡ s.communities
  pub communities_partial : a.communities_partial ≡ s.communities_partial
  pub moved : IsPermutation s.unknown a.unknown
  pub sorted : IsNonDecreasingBy (λ (u : Unknown). u.kind) a.unknown

-- the attributes of a route, or that one of the three is missing
abbrev pub IsWhole : value.Said → Result Attrs UpdateFault → Type 0
IsWhole s (Ok a) = AreSorted s a
IsWhole s (Err (Bad f)) = ((is_some s.origin && (is_some s.path && is_some s.next_hop)) ≡ false) × (f ≡ MissingWellKnown)
IsWhole s (Err Memory) = Unit {0}

-- the attributes where something is announced
abbrev pub AreGiven : value.Said → List Prefix → Result (Option Attrs) UpdateFault → Type 0
AreGiven s announced (Ok None) = announced ≡ []
AreGiven s announced (Ok (Some a)) = (announced ≡ [] → ⊥) × AreSorted s a
AreGiven s announced (Err (Bad f)) = (announced ≡ [] → ⊥) × ((is_some s.origin && (is_some s.path && is_some s.next_hop)) ≡ false) × (f ≡ MissingWellKnown)
AreGiven s announced (Err Memory) = Unit {0}

-- the update of the parts, or that an attribute is missing
abbrev pub IsFinished : Parts → Result Update UpdateFault → Type 0
IsFinished parts (Ok u) = (is_complete (value.said parts.attributes) parts.announced ≡ true) × IsUpdateOf parts u
IsFinished parts (Err (Bad f)) = (is_complete (value.said parts.attributes) parts.announced ≡ false) × (f ≡ MissingWellKnown)
IsFinished parts (Err Memory) = Unit {0}

-- the update of what is read, or the fault
abbrev pub IsDecoded : List ℕ → Result Update UpdateFault → Type 0
IsDecoded b (Ok u) = (parts : Parts) × (read_message b ≡ Ok parts) × IsUpdateOf parts u
IsDecoded b (Err e) = Tells (cause_of e) (read_message b)
