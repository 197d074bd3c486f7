-- The signature of a prefix: what the exchange keeps of its routes under a tag (this exchange's own rule).
use Rattle.std.specs.Prelude.{nat_eq, Bool, ◌||◌, List, filter, map, find, Option, if◌then◌else◌}
use Rattle.std.specs.List.{filter_map, list_any}
use Rattle.std.specs.Option.{option_map, option_map_or}
use Rattle.net_types.specs.Exports.{Routing, named_by}
use Rattle.net_types.specs.Routes.{Candidate, candidates, best, pids}
use Rattle.net_types.specs.declared.address.Ip.{Ip}
use Rattle.net_types.specs.declared.address.Pid.{Pid}
use Rattle.net_types.specs.declared.address.PortNo.{PortNo}
use Rattle.net_types.specs.declared.prefix.Prefix.{Prefix}
use Rattle.net_types.specs.declared.route.Attrs.{Attrs}
use Rattle.net_types.specs.declared.route.Offer.{Offer}
use Rattle.net_types.specs.declared.route.Part.{Part}
use Rattle.net_types.specs.declared.route.PortInfo.{PortInfo}

-- the port that has an address
abbrev pub port_with : List PortInfo → Ip → PortNo
port_with ports ip = option_map_or (λ (q : PortInfo). q.number) (find (λ (q : PortInfo). nat_eq q.ip.0 ip.0) ports) (record { 0 = 0 })

-- a route whose traffic is to be discarded: one of its communities is BLACKHOLE, 65535:666 (RFC 7999)
abbrev pub is_hole : Attrs → Bool
is_hole attrs = list_any (nat_eq 4294902426) attrs.communities

-- one exporter, the port that has the address of its NEXT_HOP, and whether its traffic is to be discarded
abbrev pub offer : Routing → Candidate → Offer
offer r c = record { exporter = c.from; port = port_with r.ports c.attrs.next_hop; hole = is_hole c.attrs }

-- of the exporters to a sender, its best one and those that its outbound policy names count
abbrev pub counts : List Pid → Pid → Pid → Bool
counts named chosen who = nat_eq who.0 chosen.0 || list_any (λ (other : Pid). nat_eq other.0 who.0) named

-- the offers to a participant whose best exporter is this one, in order of declaration
abbrev pub offers : Routing → Prefix → Pid → Pid → List Offer
offers r p to chosen = map (offer r) (filter (λ c. counts (named_by r to) chosen c.from) (candidates r to p))

-- The part of a participant in the signature of a prefix, where it has a best route. With exporters B, C and D of which B is
-- the best one, and a policy that names D and E, the offers are those of B and D.
abbrev pub part : Routing → Prefix → Pid → Option Part
part r p to = option_map (λ (c : Candidate). record { sender = to; best = c.from; offers = offers r p to c.from }) (best r to p)

-- a part for each participant that has a best route, in order of declaration
abbrev pub signature : Routing → Prefix → List Part
signature r p = filter_map (part r p) (pids r)

-- a sender's part without the offers that don't count by these names
abbrev pub trimmed_part : Pid → List Pid → Part → Part
trimmed_part who named part =
    if nat_eq part.sender.0 who.0 then record part { offers = filter (λ (o : Offer). counts named part.best o.exporter) part.offers } else part

-- a signature in which the offers of one sender are trimmed by the names of its outbound policy
abbrev pub trimmed : Pid → List Pid → List Part → List Part
trimmed who named sig = map (trimmed_part who named) sig
