-- Sets of ports, and results that leave by these or by none of them.
use Rattle.std.specs.Prelude.{◌≡◌, ℕ, Bool, true, false, List}
use Rattle.classifier.specs.Items.{AreNew, Item}
use Rattle.classifier.specs.declared.line.Line.{Line}
use Rattle.net_types.specs.Sets.{Member}
use Rattle.net_types.specs.declared.address.PortNo.{PortNo}
use Rattle.net_types.specs.declared.headers.Loc.{Loc}
use Rattle.net_types.specs.declared.headers.Loc.TheVariants.{Stay, To, Out, Nowhere}
use Rattle.place_sets.specs.Places.{has_place}

-- the location is one of the ports; what is no port counts as one
abbrev pub is_taken : List ℕ → Loc → Bool
is_taken ports Stay = true
is_taken ports (To who) = true
is_taken ports (Out port) = has_place ports port.0
is_taken ports Nowhere = true

-- each of the items leaves by one of the ports
abbrev pub AreTaken : List ℕ → List Item → Type 0
AreTaken ports items = (i : Item) → Member i items → is_taken ports i.1 ≡ true

-- none of the items leaves by one of the ports
abbrev pub AreFree : List ℕ → List Item → Type 0
AreFree ports items = (i : Item) → Member i items → is_taken ports i.1 ≡ false

-- the item names none of the ports
abbrev pub GoesFree : List ℕ → Item → Type 0
GoesFree ports i = (port : PortNo) → i.1 ≡ Out port → has_place ports port.0 ≡ false

-- all that the rules give leaves by the ports
abbrev pub AllTaken : List ℕ → List Line → Type 0
AllTaken ports zs = (z : Line) → Member z zs → AreTaken ports z.results

-- nothing that the rules give leaves by one of the ports
abbrev pub AllFree : List ℕ → List Line → Type 0
AllFree ports zs = (z : Line) → Member z zs → AreFree ports z.results

-- what was taken stays taken
abbrev pub KeepPorts : List ℕ → List ℕ → Type 0
KeepPorts old new = (loc : Loc) → is_taken old loc ≡ true → is_taken new loc ≡ true

-- nothing that the rules give is among the items
abbrev pub GiveNew : List Item → List Line → Type 0
GiveNew items ys = (y : Line) → Member y ys → AreNew items y.results
