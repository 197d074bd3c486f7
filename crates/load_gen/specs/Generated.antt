-- Generated lines (this exchange's own rule): an exchange of eight participants with a port each, and then lines that are
-- drawn from the seed.
use Rattle.std.specs.Prelude.{ℕ, ◌+◌, ◌-◌, ◌*◌, ◌%◌, nat_eq, nat_le, false, List, [], ◌∷◌, ◌++◌, codes, flat_map, replicate, sum, Some, None, if◌then◌else◌}
use Rattle.std.specs.Fmt.{decimal}
use Rattle.events.specs.Text.{hex_text}
use Rattle.net_types.specs.FirstBits.{first_bits_of}
use Rattle.net_types.specs.Frames.{folded}
use Rattle.net_types.specs.Octets.{word}
use Rattle.net_types.specs.Updates.{canonical}
use Rattle.net_types.specs.declared.address.Ip.{Ip}
use Rattle.net_types.specs.declared.prefix.Prefix.{Prefix}
use Rattle.net_types.specs.declared.route.Attrs.{Attrs}
use Rattle.net_types.specs.declared.route.Segment.{Segment}
use Rattle.net_types.specs.declared.route.Segment.TheVariants.{Sequence}
use Rattle.net_types.specs.declared.update.Update.{Update}
use Rattle.load_gen.specs.Drawing.{below, drawn}
use Rattle.load_gen.specs.declared.drawing.Kind.{Kind}
use Rattle.load_gen.specs.declared.drawing.Kind.TheVariants.{Announce, Withdraw, Drain, Take, Resolve, Packet, Out, In, Job}

-- ---- declarations

-- the name of participant k
abbrev pub name_of : ℕ → List ℕ
name_of k = codes "P" ++ decimal k

-- the number of participant k's AS
abbrev pub asn_of : ℕ → ℕ
asn_of k = 65000 + k

-- participant k's router: 172.16.128.k
abbrev pub router_of : ℕ → Ip
router_of k = record { 0 = 2886762496 + k }

-- participant k, with the identifier 1.0.0.k
abbrev pub participant_line : ℕ → List ℕ
participant_line k = codes "participant " ++ name_of k ++ codes " " ++ decimal (asn_of k) ++ codes " 1.0.0." ++ decimal k

-- port k of participant k
abbrev pub port_name : ℕ → List ℕ
port_name k = codes "port " ++ name_of k ++ codes " " ++ decimal k

-- the router at port k: 172.16.128.k, with the MAC 02:00:00:00:00:0k
abbrev pub router_address : ℕ → List ℕ
router_address k = codes " 172.16.128." ++ decimal k

abbrev pub router_mac : ℕ → List ℕ
router_mac k = codes " 02:00:00:00:00:0" ++ decimal k

abbrev pub router_text : ℕ → List ℕ
router_text k = router_address k ++ router_mac k

abbrev pub port_line : ℕ → List ℕ
port_line k = port_name k ++ router_text k

-- ---- what a drawn number says

-- one of the participants from 1 to 8: who acts
abbrev pub actor : ℕ → ℕ
actor z = below 8 8 z + 1

-- one of the participants from 1 to 8: to whom it forwards
abbrev pub target : ℕ → ℕ
target z = below 8 24 z + 1

-- one of 256 networks
abbrev pub network : ℕ → ℕ
network z = below 256 16 z

-- the network 10.q.0.0/16
abbrev pub network_prefix : ℕ → Prefix
network_prefix q = first_bits_of 16 (167772160 + 65536 * q)

-- ---- updates

-- a path of the announcer's AS, and then so often 64512
abbrev pub path_of : ℕ → ℕ → List Segment
path_of k more = Sequence (asn_of k ∷ replicate more 64512) ∷ []

-- what participant k says of a route with a path of so many more numbers, and nothing else
abbrev pub attrs_of : ℕ → ℕ → Attrs
attrs_of k more = record { origin = 0; path = path_of k more; next_hop = router_of k; med = None; atomic = false; aggregator = None; communities = []; communities_partial = false; unknown = [] }

-- it announces a network
abbrev pub announcing : ℕ → ℕ → ℕ → Update
announcing k q more = record { withdrawn = []; attrs = Some (attrs_of k more); announced = network_prefix q ∷ [] }

-- it withdraws a network
abbrev pub withdrawing : ℕ → Update
withdrawing q = record { withdrawn = network_prefix q ∷ []; attrs = None; announced = [] }

-- the line of an update, in its canonical message
abbrev pub update_line : ℕ → Update → List ℕ
update_line k u = codes "update " ++ name_of k ++ codes " " ++ hex_text (canonical u)

-- ---- datagrams

-- the words of an IPv4 header without options from 192.0.2.1 to 10.q.0.1, with this checksum: 28 octets in all, time to live
-- 64, UDP (RFC 791 3.1)
abbrev pub header_words : ℕ → ℕ → List ℕ
header_words q checksum = 17664 ∷ 28 ∷ 0 ∷ 0 ∷ 16401 ∷ checksum ∷ 49152 ∷ 513 ∷ (2560 + q) ∷ 1 ∷ []

-- the right one is the complement of the sum of the other words, with the carries added back (RFC 791 3.1)
abbrev pub header_checksum : ℕ → ℕ
header_checksum q = 65535 - folded (sum (header_words q 0))

-- from port 1000 to this port, eight octets and no checksum (RFC 768)
abbrev pub udp_words : ℕ → List ℕ
udp_words port = 1000 ∷ port ∷ 8 ∷ 0 ∷ []

-- an empty UDP datagram to 10.q.0.1
abbrev pub datagram : ℕ → ℕ → List ℕ
datagram q port = flat_map word (header_words q (header_checksum q) ++ udp_words port)

-- port 80 or 443
abbrev pub port_of : ℕ → ℕ
port_of z = if nat_eq (below 2 48 z) 0 then 80 else 443

-- the line of a datagram from participant k's router
abbrev pub packet_line : ℕ → List ℕ → List ℕ
packet_line k octets = codes "packet " ++ decimal k ++ codes " " ++ hex_text octets

-- ---- policies

-- web traffic goes to another participant; to oneself nothing does
abbrev pub out_line : ℕ → ℕ → List ℕ
out_line k to = codes "out " ++ name_of k ++ (if nat_eq k to then codes " drop" else codes " match(dstport=80) >> fwd(" ++ name_of to ++ codes ")")

abbrev pub in_line : ℕ → List ℕ
in_line k = codes "in " ++ name_of k ++ codes " match(srcip=0.0.0.0/1) >> modify(dstport=8080)"

-- ---- lines

-- lines of a job
abbrev pub job_line : ℕ → List ℕ
job_line z = if nat_eq (below 2 40 z) 0 then codes "recompile" else codes "work 64"

-- of sixteen numbers: an announcement for the first five, and so on
abbrev pub kind_of : ℕ → Kind
kind_of n =
    if nat_le n 4 then Announce
    else (if nat_le n 6 then Withdraw
    else (if nat_le n 7 then Drain
    else (if nat_le n 8 then Take
    else (if nat_le n 9 then Resolve
    else (if nat_le n 12 then Packet
    else (if nat_le n 13 then Out
    else (if nat_le n 14 then In
    else Job)))))))

-- the line of a kind that a number says
abbrev pub line_of : Kind → ℕ → List ℕ
line_of Announce z = update_line (actor z) (announcing (actor z) (network z) (below 4 32 z))
line_of Withdraw z = update_line (actor z) (withdrawing (network z))
line_of Drain z = codes "drain " ++ name_of (actor z)
line_of Take z = codes "take " ++ name_of (actor z) ++ codes " " ++ decimal (1 + below 8 40 z)
line_of Resolve z = codes "resolve " ++ decimal (actor z)
line_of Packet z = packet_line (actor z) (datagram (network z) (port_of z))
line_of Out z = out_line (actor z) (target z)
line_of In z = in_line (actor z)
line_of Job z = job_line z

-- the line of a drawn number, whose lowest four bits say its kind
abbrev pub drawn_line : ℕ → List ℕ
drawn_line z = line_of (kind_of (z % 16)) z

-- line i of a seed: the exchange, eight participants, eight ports, and then lines that are drawn
abbrev pub generated : ℕ → ℕ → List ℕ
generated seed i =
    if nat_le i 0 then codes "exchange 172.16.0.0 4096 100000"
    else (if nat_le i 8 then participant_line i
    else (if nat_le i 16 then port_line (i - 8) else drawn_line (drawn seed i)))
