-- The items of a list that several owners may share.
use Rattle.std.specs.Prelude.{List}
use Rattle.net_types.specs.declared.shared_items.Held.{Held}
use Rattle.net_types.specs.declared.shared_items.Held.TheVariants.{Own, Shared}

-- the items of one owner, or of all
abbrev pub items_of : {A : Type 0} → Held A → List A
items_of (Own items) = items.items
items_of (Shared items) = items.value.items
