-- What a frame's headers are, and how headers are written into it (RFC 791, RFC 1624).
use Rattle.std.specs.Prelude.{ℕ, ◌+◌, ◌-◌, ◌*◌, ◌/◌, ◌%◌, nat_eq, nat_le, Bool, ◌&&◌, ◌||◌, List, [], ◌∷◌, ◌++◌, length, take, drop, slice_index, Option, Some, None, if◌then◌else◌}
use Rattle.net_types.specs.declared.address.Ip.{Ip}
use Rattle.net_types.specs.declared.address.Mac.{Mac}
use Rattle.net_types.specs.declared.address.PortNo.{PortNo}
use Rattle.net_types.specs.declared.address.Tag.{Tag}
use Rattle.net_types.specs.declared.headers.Headers.{Headers}
use Rattle.net_types.specs.Octets.{word_at, address_at}

-- where the IPv4 header ends, counted from the start of the frame
abbrev pub ip_end : List ℕ → ℕ
ip_end frame = 14 + 4 * (slice_index frame 14 % 16)

-- the total length that the IPv4 header tells
abbrev pub ip_total : List ℕ → ℕ
ip_total frame = word_at 16 frame

-- a whole IPv4 packet in a frame: EtherType 0x0800, version 4, at least five words of header, a total length that the
-- frame has; octets behind the total length may stand there
abbrev pub has_headers : List ℕ → Bool
has_headers frame = nat_le 34 (length frame) && nat_eq (word_at 12 frame) 2048 && nat_eq (slice_index frame 14 / 16) 4
    && nat_le 5 (slice_index frame 14 % 16) && nat_le (ip_end frame) (14 + ip_total frame) && nat_le (14 + ip_total frame) (length frame)

-- ports are there in the first fragment of TCP with at least 20 octets behind the IPv4 header, or of UDP with 8
abbrev pub has_ports : List ℕ → Bool
has_ports frame = nat_eq (word_at 20 frame % 8192) 0
    && ((nat_eq (slice_index frame 23) 6 && nat_le (ip_end frame + 20) (14 + ip_total frame)) || (nat_eq (slice_index frame 23) 17 && nat_le (ip_end frame + 8) (14 + ip_total frame)))

-- a port of the transport, where ports are there
abbrev pub port_at : ℕ → List ℕ → Option ℕ
port_at at frame = if has_ports frame then Some (word_at (ip_end frame + at) frame) else None

-- the headers of a frame that comes in at a port, where it has some
abbrev pub headers_of : PortNo → List ℕ → Option Headers
headers_of port frame = if has_headers frame then Some (record { inport = port; src = address_at 26 frame; dst = address_at 30 frame; proto = slice_index frame 23; sport = port_at 0 frame; dport = port_at 2 frame }) else None

-- two octets at a place get another value
pub record Change : Type 0 where
  pub at : ℕ
  pub old : ℕ
  pub new : ℕ

-- the change at a place, where the value differs
abbrev pub change_of : ℕ → ℕ → ℕ → List Change
change_of at old new = if nat_eq old new then [] else record { at = at; old = old; new = new } ∷ []

-- a port changes only where the frame has it and the headers have a value
abbrev pub changes_of_port : ℕ → Option ℕ → Option ℕ → List Change
changes_of_port at (Some old) (Some new) = change_of at old new
changes_of_port at None new = []
changes_of_port at (Some old) None = []

-- an address is two words
abbrev pub changes_of_address : ℕ → Ip → Ip → List Change
changes_of_address at old new = change_of at (old.0 / 65536) (new.0 / 65536) ++ change_of (at + 2) (old.0 % 65536) (new.0 % 65536)

-- the MAC of a tag: 02:53:44 and the tag in three octets (this exchange's own rule)
abbrev pub tag_mac : Tag → List ℕ
tag_mac t = 2 ∷ 83 ∷ 68 ∷ t.0 / 65536 ∷ t.0 / 256 % 256 ∷ t.0 % 256 ∷ []

-- the address of a tag lies that far above the base of the pool (this exchange's own rule)
abbrev pub address_of : Ip → Tag → Ip
address_of base t = record { 0 = base.0 + t.0 }

-- the frame with a word at a place
abbrev pub put_word : ℕ → ℕ → List ℕ → List ℕ
put_word at n frame = take at frame ++ n / 256 ∷ n % 256 ∷ drop (at + 2) frame

-- the frame with each change made
abbrev pub put_changes : List Change → List ℕ → List ℕ
put_changes [] frame = frame
put_changes (c ∷ cs) frame = put_changes cs (put_word c.at c.new frame)

-- The carries are added back until 16 bits are left: twice is enough below 2 ^ 31.
abbrev pub folded : ℕ → ℕ
folded n = let once = n % 65536 + n / 65536 in once % 65536 + once / 65536

-- the sum over the changed words of each old one's complement and each new one (RFC 1624 3)
abbrev pub sum_changes : List Change → ℕ
sum_changes [] = 0
sum_changes (c ∷ cs) = 65535 - c.old + c.new + sum_changes cs

-- a checksum after the changes, all in one sum: HC' = ~(~HC + ~m + m') (RFC 1624 3)
abbrev pub checksum : ℕ → List Change → ℕ
checksum old cs = 65535 - folded (65535 - old + sum_changes cs)

-- a checksum stays as it is where no word changes
abbrev pub put_checksum : ℕ → List Change → List ℕ → List ℕ
put_checksum at [] frame = frame
put_checksum at (c ∷ cs) frame = put_word at (checksum (word_at at frame) (c ∷ cs)) frame

-- a UDP checksum of 0 says that there is none and stays; a sum of 0 is written as 65535 (RFC 768)
abbrev pub put_udp_checksum : ℕ → List Change → List ℕ → List ℕ
put_udp_checksum at [] frame = frame
put_udp_checksum at (c ∷ cs) frame =
    let sum = checksum (word_at at frame) (c ∷ cs) in
    if nat_eq (word_at at frame) 0 then frame else put_word at (if nat_eq sum 0 then 65535 else sum) frame

-- the checksum of TCP or UDP, where ports are there
abbrev pub put_port_checksum : Headers → List Change → List ℕ → List ℕ
put_port_checksum h cs frame = if has_ports frame then (if nat_eq h.proto 6 then put_checksum (ip_end frame + 16) cs frame else put_udp_checksum (ip_end frame + 6) cs frame) else frame

-- only the fields that differ change, and the checksums over them
abbrev pub written_fields : Headers → Headers → List ℕ → List ℕ
written_fields h to frame =
    let addresses = changes_of_address 26 h.src to.src ++ changes_of_address 30 h.dst to.dst in
    let ports = changes_of_port (ip_end frame) h.sport to.sport ++ changes_of_port (ip_end frame + 2) h.dport to.dport in
    put_changes (addresses ++ ports) (put_port_checksum h (addresses ++ ports) (put_checksum 24 addresses frame))

-- a frame without headers stays as it is
abbrev pub written_from : Option Headers → Headers → List ℕ → List ℕ
written_from None to frame = frame
written_from (Some h) to frame = written_fields h to frame

-- the frame with these headers written into it, to this MAC
abbrev pub written : List ℕ → Headers → Mac → List ℕ
written frame to mac = mac.0 ++ drop 6 (written_from (headers_of to.inport frame) to frame)

-- a datagram as an IPv4 frame from one MAC to another
abbrev pub framed : Mac → Mac → List ℕ → List ℕ
framed to from datagram = to.0 ++ from.0 ++ 8 ∷ 0 ∷ datagram

-- the destination of a datagram (RFC 791 3.1)
abbrev pub destination : List ℕ → Ip
destination datagram = address_at 16 datagram
