-- What an ARP request is, and the octets of requests and replies (RFC 826), for Ethernet and IPv4.
use Rattle.std.specs.Prelude.{ℕ, nat_le, Bool, ◌&&◌, List, [], ◌∷◌, ◌++◌, length, take, drop}
use Rattle.net_types.specs.declared.address.Ip.{Ip}
use Rattle.net_types.specs.declared.address.Mac.{Mac}
use Rattle.net_types.specs.Octets.{same_octets, address_at, address_octets}

-- octets 12 to 21: EtherType 0x0806, Ethernet, IPv4, addresses of six and four octets, and the operation
abbrev pub arp_head : ℕ → List ℕ
arp_head operation = 8 ∷ 6 ∷ 0 ∷ 1 ∷ 8 ∷ 0 ∷ 6 ∷ 4 ∷ 0 ∷ operation ∷ []

-- operation 1 asks, and octets behind the first 42 may stand there
abbrev pub is_arp_request : List ℕ → Bool
is_arp_request frame = nat_le 42 (length frame) && same_octets (arp_head 1) (take 10 (drop 12 frame))

-- who asks: the sender's hardware address
abbrev pub asker_mac : List ℕ → Mac
asker_mac frame = record { 0 = take 6 (drop 22 frame) }

-- the sender's protocol address
abbrev pub asker_ip : List ℕ → Ip
asker_ip frame = address_at 28 frame

-- the address that is asked for: the target's protocol address
abbrev pub asked_ip : List ℕ → Ip
asked_ip frame = address_at 38 frame

-- the 42 octets of a frame to a hardware address, with the sender's two addresses and the target's
abbrev pub arp_octets : Mac → ℕ → Mac → Ip → Mac → Ip → List ℕ
arp_octets to operation sender sender_ip target target_ip =
    to.0 ++ sender.0 ++ arp_head operation ++ sender.0 ++ address_octets sender_ip ++ target.0 ++ address_octets target_ip

-- every station of the Ethernet
abbrev pub broadcast : Mac
broadcast = record { 0 = 255 ∷ 255 ∷ 255 ∷ 255 ∷ 255 ∷ 255 ∷ [] }

-- the hardware address that is not known yet
abbrev pub no_mac : Mac
no_mac = record { 0 = 0 ∷ 0 ∷ 0 ∷ 0 ∷ 0 ∷ 0 ∷ [] }

-- the reply to who asks, that an address is at a MAC
abbrev pub arp_reply : Mac → Ip → Ip → Mac → List ℕ
arp_reply asker ip asked mac = arp_octets asker 2 mac asked asker ip

-- the request by who has a MAC and an address, for a target's MAC
abbrev pub arp_request : Mac → Ip → Ip → List ℕ
arp_request mac ip target = arp_octets broadcast 1 mac ip no_mac target
