-- The pairs that go with tags that no prefix has any more, and those whose rules are built (this exchange's own rule).
use Rattle.std.specs.Prelude.{Bool, not, List, [], ◌++◌, map, filter, slice_get, unwrap_or, if◌then◌else◌}
use Rattle.std.specs.FinMap.{FinMap, empty, get}
use Rattle.std.specs.List.{list_any}
use Rattle.std.specs.Ordering.{eq_by_cmp}
-- somebody was told a tag, and those of some tags that nobody was told
pub use Rattle.advert_queue.specs.Advertised.{is_told}
pub use Rattle.advert_queue.specs.Taken.{untold}
use Rattle.events.specs.declared.Entry.{Entry}
use Rattle.events.specs.Tags.{tells}
use Rattle.fast_path.specs.declared.planned.Class.{Class}
use Rattle.net_types.specs.Keys.{pair_cmp, prefix_cmp, tag_cmp}
use Rattle.net_types.specs.Maps.{ordered}
use Rattle.net_types.specs.Sets.{union_over}
use Rattle.net_types.specs.declared.address.Pid.{Pid}
use Rattle.net_types.specs.declared.address.PortNo.{PortNo}
use Rattle.net_types.specs.declared.address.Tag.{Tag}
use Rattle.net_types.specs.declared.route.Part.{Part}
use Rattle.net_types.specs.declared.rule.Pair.{Pair}
use Rattle.registry.specs.Registered.{Registered, ports_of}

-- what each participant was told, in order of declaration
abbrev pub Told : Type 0
Told = List (FinMap prefix_cmp Entry)

-- the participant was told the tag; one that has no place in the list was told nothing
abbrev pub was_told : Told → Pid → Tag → Bool
was_told told who t = tells (unwrap_or (slice_get told who.0) empty) t

-- a tag at a port
abbrev pub pair_at : Tag → PortNo → Pair
pair_at t port = record { port = port; tag = t }

-- ---- the pairs that go

-- the tag at the ports of a part's sender, unless the sender was told the tag
abbrev pub part_pairs : Registered → Told → Tag → Part → List Pair
part_pairs names told t part = if was_told told part.sender t then [] else map (pair_at t) (ports_of names part.sender)

-- the pairs of the senders in the signature that was kept for a tag
abbrev pub tag_pairs : Registered → FinMap tag_cmp (List Part) → Told → Tag → List Pair
tag_pairs names kept told t = union_over (part_pairs names told t) (unwrap_or (get kept t) [])

-- the pairs that go with these tags, in order
abbrev pub gone_pairs : Registered → FinMap tag_cmp (List Part) → Told → List Tag → List Pair
gone_pairs names kept told ts = ordered pair_cmp (union_over (tag_pairs names kept told) ts)

-- ---- the pairs whose rules are built

-- a tag at the ports of a part's sender
abbrev pub sender_pairs : Registered → Tag → Part → List Pair
sender_pairs names t part = map (pair_at t) (ports_of names part.sender)

-- a fresh tag at the ports of the senders in its signature
abbrev pub class_pairs : Registered → Class → List Pair
class_pairs names c = union_over (sender_pairs names c.tag) c.sig

-- so it is of each fresh tag
abbrev pub fresh_pairs : Registered → List Class → List Pair
fresh_pairs names cs = union_over (class_pairs names) cs

-- the pair is one of these
abbrev pub is_among : List Pair → Pair → Bool
is_among ks pair = list_any (eq_by_cmp pair_cmp pair) ks

-- those of the pairs to be built anew that don't go
abbrev pub staying : List Pair → List Pair → List Pair
staying gone rebuild = filter (λ pair. not (is_among gone pair)) rebuild

-- the pairs whose rules are built, in order
abbrev pub built_pairs : Registered → List Class → List Pair → List Pair → List Pair
built_pairs names fresh gone rebuild = ordered pair_cmp (fresh_pairs names fresh ++ staying gone rebuild)

-- the pairs whose rules are taken out, in order
abbrev pub dropped_pairs : List Pair → List Pair → List Pair
dropped_pairs gone rebuild = ordered pair_cmp (gone ++ rebuild)
