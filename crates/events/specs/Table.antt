-- What the table does with a frame (this exchange's own rule).
use Rattle.std.specs.Prelude.{ℕ, ◌+◌, ◌*◌, nat_eq, List, [], ◌∷◌, map, take, replicate, slice_index, find, Option, Some, None, unwrap_or, if◌then◌else◌}
use Rattle.std.specs.Cmp.Lexicographic.{slice_cmp}
use Rattle.std.specs.FinMap.{FinMap, get}
use Rattle.std.specs.Option.{option_map_or}
use Rattle.std.specs.Ordering.{nat_cmp, ordering_then}
use Rattle.std.specs.declared.cmp.Ordering.{Ordering}
use Rattle.net_types.specs.Answers.{Leaving}
use Rattle.net_types.specs.Cubes.{has}
use Rattle.net_types.specs.Frames.{headers_of, written}
use Rattle.net_types.specs.Headers.{apply}
use Rattle.net_types.specs.Keys.{pair_cmp}
use Rattle.net_types.specs.Maps.{ordered}
use Rattle.net_types.specs.Octets.{same_octets}
use Rattle.net_types.specs.declared.address.Mac.{Mac}
use Rattle.net_types.specs.declared.address.PortNo.{PortNo}
use Rattle.net_types.specs.declared.address.Tag.{Tag}
use Rattle.net_types.specs.declared.headers.Headers.{Headers}
use Rattle.net_types.specs.declared.route.PortInfo.{PortInfo}
use Rattle.net_types.specs.declared.actions.Action.{Action}
use Rattle.net_types.specs.declared.rule.Rule.{Rule}
use Rattle.events.specs.declared.Frame.{Frame}

-- the tag to whose MAC a frame goes
abbrev pub tag_at : List ℕ → Option Tag
tag_at frame = if same_octets (take 3 frame) (2 ∷ 83 ∷ 68 ∷ []) then Some (record { 0 = 65536 * slice_index frame 3 + 256 * slice_index frame 4 + slice_index frame 5 }) else None

-- the first rule whose cube has the headers
abbrev pub first_rule : List Rule → Headers → Option Rule
first_rule rules h = find (λ (r : Rule). has r.cube h) rules

-- what an action makes of headers
abbrev pub done_by : Headers → Action → Leaving
done_by h a = record { headers = apply a.set h; port = a.port }

-- what the first rule that has the headers makes of them; nothing where no rule has them
abbrev pub actions_on : List Rule → Headers → List Leaving
actions_on rules h = option_map_or (λ (r : Rule). map (done_by h) r.actions) (first_rule rules h) []

-- what the table makes of a frame at a port: the actions of the first rule of the pair that has its headers
abbrev pub first_match : FinMap pair_cmp (List Rule) → PortNo → List ℕ → List Leaving
first_match table port frame =
    option_map_or (λ (h : Headers).
    option_map_or (λ (t : Tag). actions_on (unwrap_or (get table (record { port = port; tag = t })) []) h) (tag_at frame) [])
    (headers_of port frame) []

-- the MAC of the router at a port
abbrev pub mac_of : List PortInfo → PortNo → Mac
mac_of ports n = option_map_or (λ (q : PortInfo). q.mac) (find (λ (q : PortInfo). nat_eq q.number.0 n.0) ports) (record { 0 = replicate 6 0 })

-- by port, and then by octets
abbrev pub frame_cmp : Frame → Frame → Ordering
frame_cmp a b = ordering_then (nat_cmp a.port.0 b.port.0) (slice_cmp nat_cmp a.bytes b.bytes)

-- the frame with these headers, to the router at the port
abbrev pub frame_of : List PortInfo → List ℕ → Leaving → Frame
frame_of ports frame l = record { port = l.port; bytes = written frame l.headers (mac_of ports l.port) }

-- the frames that leave, by port and then octets, each once
abbrev pub out : List PortInfo → List ℕ → List Leaving → List Frame
out ports frame leaving = ordered frame_cmp (map (frame_of ports frame) leaving)
