-- The set of the pairs of long results.
use Rattle.std.specs.Prelude.{◌≡◌, ◌==◌, ℕ, nat_eq, Bool, ◌&&◌, List}
use Rattle.std.specs.Option.{option_eq}
use Rattle.std.specs.HashSet.{HashSet, contains}
use Rattle.std.specs.declared.hash.FoldHasher.{FoldHasher}
use Rattle.std.specs.declared.hash.BuildHasherDefault.{BuildHasherDefault}
use Rattle.net_types.specs.Attributes.{same_ip}
use Rattle.net_types.specs.declared.headers.Assign.{Assign}
use Rattle.net_types.specs.declared.headers.Loc.{Loc}
use Rattle.net_types.specs.declared.headers.Loc.TheVariants.{Stay, To, Out, Nowhere}
use Rattle.classifier.specs.declared.gathering.Key.{Key}
use Rattle.classifier.specs.Items.{Item, is_among}

-- which of the locations it is
abbrev pub kind_of : Loc → ℕ
kind_of Stay = 0
kind_of (To who) = 1
kind_of (Out port) = 2
kind_of Nowhere = 3

-- the number of its participant or port
abbrev pub number_of : Loc → ℕ
number_of Stay = 0
number_of (To who) = who.0
number_of (Out port) = port.0
number_of Nowhere = 0

-- what the set finds an item by
abbrev pub key_of : Item → Key
key_of item = record { set = item.0; kind = kind_of item.1; number = number_of item.1 }

-- the assignments are equal, field by field
abbrev pub assign_eq : Assign → Assign → Bool
assign_eq a b = option_eq same_ip a.src b.src && (option_eq same_ip a.dst b.dst && (option_eq nat_eq a.sport b.sport && option_eq nat_eq a.dport b.dport))

-- the keys are equal, field by field
abbrev pub key_eq : Key → Key → Bool
key_eq a b = assign_eq a.set b.set && ((a.kind == b.kind) && (a.number == b.number))

-- sets of keys
abbrev pub Keys : Type 0
Keys = HashSet Key (BuildHasherDefault FoldHasher)

-- the set has the items of the list and no others
abbrev pub Knows : List Item → Keys → Type 0
Knows xs seen = (y : Item) → contains key_eq seen (key_of y) ≡ is_among xs y
