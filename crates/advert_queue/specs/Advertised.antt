-- What each participant was told and what is present for it, in order of declaration (this exchange's own rule).
use Rattle.std.specs.Prelude.{ℕ, ◌<◌, Bool, List, map, length, slice_get, slice_set, unwrap_or, Option, take, if◌then◌else◌}
use Rattle.std.specs.FinMap.{FinMap, empty, get}
use Rattle.std.specs.List.{list_any}
use Rattle.events.specs.Pending.{with_news}
use Rattle.events.specs.Tags.{tells}
use Rattle.events.specs.declared.Entry.{Entry}
use Rattle.net_types.specs.Keys.{prefix_cmp}
use Rattle.net_types.specs.declared.address.Pid.{Pid}
use Rattle.net_types.specs.declared.address.Tag.{Tag}
use Rattle.net_types.specs.declared.prefix.Prefix.{Prefix}
use Rattle.advert_queue.specs.Telling.{is_pending, pending}

-- What each was told, what is present for each, for how many offers to each of prefixes at which nothing is pending there is
-- room, and below which number the tags lie of which there is room for offers to each.
pub record Advertised : Type 0 where
  pub told : List (FinMap prefix_cmp Entry)
  pub present : List (FinMap prefix_cmp Entry)
  pub places : List ℕ
  pub tags : List ℕ

-- the participant is one of them
abbrev pub HasQueue : Advertised → Pid → Type 0
HasQueue a who = who.0 < length a.told

-- what a participant was told
abbrev pub told_of : Advertised → Pid → FinMap prefix_cmp Entry
told_of a who = unwrap_or (slice_get a.told who.0) empty

-- what is present for it
abbrev pub present_of : Advertised → Pid → FinMap prefix_cmp Entry
present_of a who = unwrap_or (slice_get a.present who.0) empty

-- for how many offers to it of prefixes at which nothing is pending there is room
abbrev pub places_of : Advertised → Pid → ℕ
places_of a who = unwrap_or (slice_get a.places who.0) 0

-- below which number the tags lie of which there is room for offers to it
abbrev pub tags_of_room : Advertised → Pid → ℕ
tags_of_room a who = unwrap_or (slice_get a.tags who.0) 0

-- how many places an offer at a prefix takes: none where something is pending there
abbrev pub place_cost : FinMap prefix_cmp Entry → FinMap prefix_cmp Entry → Prefix → ℕ
place_cost told present p = if is_pending told present p then 0 else 1

-- what is present once it has this entry at a prefix, or none
abbrev pub offered : Advertised → Pid → Prefix → Option Entry → List (FinMap prefix_cmp Entry)
offered a who p entry = slice_set a.present who.0 (with_news (present_of a who) p entry)

-- a prefix with what is present of it
abbrev pub present_at : FinMap prefix_cmp Entry → Prefix → Prefix × Option Entry
present_at present p = (p, get present p)

-- the first of what is pending, each prefix with what is present of it
abbrev pub first_pending : ℕ → FinMap prefix_cmp Entry → FinMap prefix_cmp Entry → List (Prefix × Option Entry)
first_pending count told present = map (present_at present) (take count (pending told present))

-- somebody was told the tag
abbrev pub is_told : List (FinMap prefix_cmp Entry) → Tag → Bool
is_told told t = list_any (λ entries. tells entries t) told
