-- Which addresses a router has resolved, which it has still to resolve, and what the responder answers (RFC 826).
use Rattle.std.specs.Prelude.{ℕ, ◌-◌, ◌&&◌, not, List, map, filter, Option, Some, None, if◌then◌else◌}
use Rattle.std.specs.List.{list_any}
use Rattle.arp_frame.specs.declared.read.ArpRequest.{ArpRequest}
use Rattle.events.specs.declared.Exchange.{Exchange}
use Rattle.net_types.specs.Arp.{arp_reply, arp_request, asked_ip, asker_ip, asker_mac, is_arp_request}
use Rattle.net_types.specs.Attributes.{same_ip}
use Rattle.net_types.specs.Frames.{address_of, tag_mac}
use Rattle.net_types.specs.declared.address.Ip.{Ip}
use Rattle.net_types.specs.declared.address.Mac.{Mac}
use Rattle.net_types.specs.declared.address.Tag.{Tag}
use Rattle.net_types.specs.declared.route.PortInfo.{PortInfo}
use Rattle.exchange_core.specs.Placed.{lies_in}

-- the MAC of the tag that an address of the pool stands for
abbrev pub mac_at : Ip → Ip → Mac
mac_at base ip = record { 0 = tag_mac (record { 0 = ip.0 - base.0 }) }

-- the request that a frame is, where it asks for an address of the pool
abbrev pub pool_request : Ip → ℕ → List ℕ → Option ArpRequest
pool_request base size frame =
    if is_arp_request frame && lies_in base size (asked_ip frame)
    then Some (record { mac = asker_mac frame; ip = asker_ip frame; target = asked_ip frame })
    else None

-- the reply to a request for an address of the pool
abbrev pub reply_to : Ip → ArpRequest → List ℕ
reply_to base r = arp_reply r.mac r.ip r.target (mac_at base r.target)

-- the router at a port asks for an address of the pool, and the responder replies
abbrev pub exchange_for : Ip → PortInfo → Ip → Exchange
exchange_for base q ip = record { request = Some (arp_request q.mac q.ip ip); reply = arp_reply q.mac q.ip ip (mac_at base ip) }

-- the addresses of tags that aren't among those known
abbrev pub missing_hops : Ip → List Ip → List Tag → List Ip
missing_hops base known tags = filter (λ ip. not (list_any (same_ip ip) known)) (map (address_of base) tags)
