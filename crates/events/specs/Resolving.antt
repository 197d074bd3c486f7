-- Which addresses of tags the routers have resolved (RFC 826; this exchange's own rule).
use Rattle.std.specs.Prelude.{ℕ, ◌+◌, ◌-◌, Bool, ◌&&◌, not, nat_eq, nat_le, nat_lt, List, [], ◌∷◌, ◌++◌, map, filter, slice_get, slice_set, Option, unwrap_or, if◌then◌else◌}
use Rattle.std.specs.FinMap.{values}
use Rattle.std.specs.List.{list_any, position_from}
use Rattle.std.specs.Option.{option_map_or}
use Rattle.net_types.specs.Arp.{asked_ip, asker_mac, is_arp_request}
use Rattle.net_types.specs.Attributes.{same_ip}
use Rattle.net_types.specs.Frames.{address_of, tag_mac}
use Rattle.net_types.specs.Keys.{ip_cmp}
use Rattle.net_types.specs.Maps.{ordered}
use Rattle.net_types.specs.Octets.{same_octets}
use Rattle.net_types.specs.declared.address.Ip.{Ip}
use Rattle.net_types.specs.declared.address.Mac.{Mac}
use Rattle.net_types.specs.declared.address.PortNo.{PortNo}
use Rattle.net_types.specs.declared.address.Tag.{Tag}
use Rattle.net_types.specs.declared.route.PortInfo.{PortInfo}
use Rattle.events.specs.State.{State, Entry, told_to}

-- the address of a tag
abbrev pub tag_address : State → Tag → Ip
tag_address s t = address_of s.base t

-- the addresses of the tags
abbrev pub is_in_pool : State → Ip → Bool
is_in_pool s ip = nat_lt s.base.0 ip.0 && nat_le ip.0 (s.base.0 + s.size)

-- the MAC that the responder tells for an address of the pool
abbrev pub pool_mac : State → Ip → Mac
pool_mac s ip = record { 0 = tag_mac (record { 0 = ip.0 - s.base.0 }) }

-- the place of a port in the order of declaration
abbrev pub port_place : State → PortNo → Option ℕ
port_place s n = position_from (λ (q : PortInfo). nat_eq q.number.0 n.0) 0 s.routing.ports

-- the addresses that the router at a port has resolved
abbrev pub resolved_at : State → PortNo → List Ip
resolved_at s n = option_map_or (λ place. unwrap_or (slice_get s.resolved place) []) (port_place s n) []

-- the router at a port has resolved an address
abbrev pub is_resolved : State → PortNo → Ip → Bool
is_resolved s n ip = list_any (same_ip ip) (resolved_at s n)

-- the state in which the router at a port has resolved these addresses too
abbrev pub with_resolved : State → PortNo → List Ip → State
with_resolved s n ips = option_map_or (λ place. record s { resolved = slice_set s.resolved place (ordered ip_cmp (resolved_at s n ++ ips)) }) (port_place s n) s

-- the next hops that the owner of a port was told and its router hasn't resolved, ascending, each once
abbrev pub unresolved : State → PortInfo → List Ip
unresolved s q = filter (λ ip. not (is_resolved s q.number ip)) (ordered ip_cmp (map (λ (e : Entry). tag_address s e.tag) (values (told_to s q.owner))))

-- the responder answers a frame: it asks for an address of the pool
abbrev pub is_pool_request : State → List ℕ → Bool
is_pool_request s frame = is_arp_request frame && is_in_pool s (asked_ip frame)

-- a router that asked with its own MAC has resolved the address that it asked for
abbrev pub with_answer : State → PortInfo → List ℕ → State
with_answer s q frame = if is_pool_request s frame && same_octets (asker_mac frame).0 q.mac.0 then with_resolved s q.number (asked_ip frame ∷ []) else s
