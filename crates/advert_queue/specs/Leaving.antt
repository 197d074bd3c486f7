-- The tags of what was told at prefixes that are told anew.
use Rattle.std.specs.Prelude.{ℕ, ◌+◌, nat_eq, Bool, ◌&&◌, List, [], ◌∷◌}
use Rattle.std.specs.FinMap.{FinMap, get}
use Rattle.events.specs.declared.Entry.{Entry}
use Rattle.net_types.specs.Keys.{prefix_cmp}
use Rattle.net_types.specs.declared.address.Tag.{Tag}
use Rattle.advert_queue.specs.Changes.{Change, tag_in}
use Rattle.advert_queue.specs.Counts.{counted, has_tag}
use Rattle.advert_queue.specs.declared.counts.Side.TheVariants.{Told, Present}
use Rattle.advert_queue.specs.declared.counts.Uses.{Uses}

-- at how many of the changed prefixes the tag was told
abbrev pub left : FinMap prefix_cmp Entry → List Change → Tag → ℕ
left told [] t = 0
left told (c ∷ cs) t = has_tag t (tag_in (get told c.0)) + left told cs t

-- nothing of what is present is counted
abbrev pub none_present : Tag → ℕ
none_present t = 0

-- the tag is in use nowhere else among what was told, and nowhere among what is present
abbrev pub is_gone : List (Tag × Uses) → Tag × Uses → Bool
is_gone cs c = nat_eq (counted Told cs c.0) c.1.told && nat_eq (counted Present cs c.0) 0
