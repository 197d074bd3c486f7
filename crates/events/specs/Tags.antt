-- Which tags are live, and which tags the prefixes have after a line that changes the routes (this exchange's own rule).
use Rattle.std.specs.Prelude.{ℕ, ◌+◌, ◌*◌, nat_eq, nat_lt, Bool, false, ◌&&◌, ◌||◌, not, List, length, map, filter, slice_get, find, Option, Some, None, is_some, if◌then◌else◌}
use Rattle.std.specs.FinMap.{FinMap, get, values}
use Rattle.std.specs.List.{list_any, position_from}
use Rattle.std.specs.Option.{option_and_then, option_map, option_map_or}
use Rattle.net_types.specs.Attributes.{same_option, same_signature}
use Rattle.net_types.specs.Exports.{Routing}
use Rattle.net_types.specs.Keys.{pair_cmp, prefix_cmp, tag_cmp}
use Rattle.net_types.specs.Maps.{each_once, ordered, tabulate}
use Rattle.net_types.specs.Routes.{best, pids, announced, numbers}
use Rattle.net_types.specs.Sets.{union_over}
use Rattle.net_types.specs.Signatures.{signature}
use Rattle.net_types.specs.declared.address.Tag.{Tag}
use Rattle.net_types.specs.declared.prefix.Prefix.{Prefix}
use Rattle.net_types.specs.declared.route.Part.{Part}
use Rattle.net_types.specs.declared.route.PortInfo.{PortInfo}
use Rattle.net_types.specs.declared.rule.Pair.{Pair}
use Rattle.events.specs.declared.Phase.TheVariants.{Running}
use Rattle.events.specs.State.{State, Entry, told_to, present, port_of}

-- tags are numbers
abbrev pub same_tag : Tag → Tag → Bool
same_tag a b = nat_eq a.0 b.0

-- somebody has a best route for it
abbrev pub is_carried : Routing → Prefix → Bool
is_carried r p = list_any (λ to. is_some (best r to p)) (pids r)

-- the carried prefixes, ascending
abbrev pub carried : Routing → List Prefix
carried r = filter (is_carried r) (ordered prefix_cmp (announced r))

-- some entry has the tag
abbrev pub tells : FinMap prefix_cmp Entry → Tag → Bool
tells entries t = list_any (λ (e : Entry). same_tag e.tag t) (values entries)

-- a prefix has the tag, or somebody was told it
abbrev pub is_live : State → Tag → Bool
is_live s t = list_any (same_tag t) (values s.tag) || list_any (λ entries. tells entries t) s.told

-- the port's owner was told the tag, or would be
abbrev pub is_live_for : State → Tag → PortInfo → Bool
is_live_for s t q = tells (told_to s q.owner) t || tells (present s q.owner) t

-- a port and a tag for which the table has rules
abbrev pub is_live_pair : State → Pair → Bool
is_live_pair s pair = option_map_or (is_live_for s pair.tag) (port_of s pair.port) false

-- the tags of the pool, ascending
abbrev pub tags : State → List Tag
tags s = map (λ n. record { 0 = n }) (numbers 1 s.size)

-- each declared port with each tag of the pool
abbrev pub pairs : State → List Pair
pairs s = union_over (λ (q : PortInfo). map (λ t. record { port = q.number; tag = t }) (tags s)) s.routing.ports

-- the pairs that are live, in order
abbrev pub live_pairs : State → List Pair
live_pairs s = ordered pair_cmp (filter (is_live_pair s) (pairs s))

-- the tags that are not live, ascending
abbrev pub free_tags : State → List Tag
free_tags s = filter (λ t. not (is_live s t)) (tags s)

-- the prefix had no tag, or its signature isn't the one kept for its tag
abbrev pub is_changed : State → Routing → Prefix → Bool
is_changed s r p = not (same_option same_signature (option_and_then (get s.kept) (get s.tag p)) (Some (signature r p)))

-- what the prefixes that get one fresh tag have in common: their tag before, if any, and their signature after
pub record Group : Type 0 where
  pub before : Option Tag
  pub after : List Part

-- the same tag before, or none both times, and the same signature after
abbrev pub same_group : Group → Group → Bool
same_group a b = same_option same_tag a.before b.before && same_signature a.after b.after

-- the group of a prefix
abbrev pub group_of : State → Routing → Prefix → Group
group_of s r p = record { before = get s.tag p; after = signature r p }

-- the groups of the changed prefixes, in order of their least prefix
abbrev pub groups : State → Routing → List Group
groups s r = each_once same_group (map (group_of s r) (filter (is_changed s r) (carried r)))

-- the group at place k takes the free tag at place k
abbrev pub fresh_tag : State → Routing → Group → Option Tag
fresh_tag s r g = option_and_then (slice_get (free_tags s)) (position_from (same_group g) 0 (groups s r))

-- a carried prefix that didn't change keeps its tag, and one that isn't carried has none
abbrev pub new_tag : State → Routing → Prefix → Option Tag
new_tag s r p = if is_carried r p then (if is_changed s r p then fresh_tag s r (group_of s r p) else get s.tag p) else None

-- the tags after a line that changes the routes
abbrev pub tags_after : State → Routing → FinMap prefix_cmp Tag
tags_after s r = tabulate prefix_cmp (announced r) (new_tag s r)

-- the group to which a tag is given
abbrev pub group_with : State → Routing → Tag → Option Group
group_with s r t = find (λ g. same_option same_tag (fresh_tag s r g) (Some t)) (groups s r)

-- a fresh tag's signature is its group's
abbrev pub kept_signature : State → Routing → Tag → Option (List Part)
kept_signature s r t = option_map_or (λ (g : Group). Some g.after) (group_with s r t) (get s.kept t)

-- a job owes at most 2^50 units: a greater number becomes that one
abbrev pub capped : ℕ → ℕ
capped n = if nat_lt 1125899906842624 n then 1125899906842624 else n

-- what a job owes more after a line that changes the routes: one unit for each prefix that it made carried, and for each
-- fresh tag one more than there are ports
abbrev pub more_units : State → Routing → ℕ
more_units s r = length (filter (λ p. not (is_carried s.routing p)) (carried r)) + length (groups s r) * (length s.routing.ports + 1)

-- the state with these routes and the tags that come of them; a tag that is live no more is kept no more
abbrev pub retagged : State → Routing → State
retagged s r =
    let tagged = record s { routing = r; tag = tags_after s r; phase = Running; owed = option_map (λ n. capped (n + more_units s r)) s.owed } in
    record tagged { kept = tabulate tag_cmp (tags s) (λ t. if is_live tagged t then kept_signature s r t else None) }
