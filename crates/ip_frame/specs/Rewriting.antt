-- Which headers may be written into a frame, and what is put where.
use Rattle.std.specs.Prelude.{◌≡◌, ℕ, ◌+◌, nat_eq, List, Option, Some, None, IsSome, IsSomeAnd, if◌then◌else◌}
use Rattle.net_types.specs.Octets.{word_at}
use Rattle.net_types.specs.Frames.{headers_of, has_ports, ip_end, put_word}
use Rattle.net_types.specs.declared.headers.Headers.{Headers}
use Rattle.ip_frame.specs.Sums.{difference, difference_at, with_checksum, with_udp_checksum, with_address}
use Rattle.ip_frame.specs.declared.ports.Ports.{Ports}

-- the same protocol, and a value for each port that is there
pub record CanReplace (h to : Headers) : Type 0 where
  pub proto : to.proto ≡ h.proto
  pub sport : IsSome h.sport → IsSome to.sport
  pub dport : IsSome h.dport → IsSome to.dport

-- the frame has headers, and these may replace them
abbrev pub CanTake : List ℕ → Headers → Type 0
CanTake frame to = IsSomeAnd (headers_of to.inport frame) (λ h. CanReplace h to)

-- ports at a place, where both have a value
abbrev pub ports_with : ℕ → Option ℕ → Option ℕ → Option Ports
ports_with at None dport = None
ports_with at (Some sport) None = None
ports_with at (Some sport) (Some dport) = Some (record { at = at; sport = sport; dport = dport })

-- the ports that are put into a frame, where it has ports
abbrev pub ports_of : List ℕ → Headers → Option Ports
ports_of frame to = if has_ports frame then ports_with (ip_end frame) to.sport to.dport else None

-- what both addresses add to a checksum's sum
abbrev pub addresses_difference : List ℕ → Headers → ℕ
addresses_difference frame to = difference_at 26 frame to.src + difference_at 30 frame to.dst

-- what both ports add to it
abbrev pub ports_difference : Ports → List ℕ → ℕ
ports_difference ports frame = difference (word_at ports.at frame) ports.sport + difference (word_at (ports.at + 2) frame) ports.dport

-- the frame with the checksum of TCP or UDP after a sum
abbrev pub with_port_checksum : ℕ → ℕ → ℕ → List ℕ → List ℕ
with_port_checksum at proto sum frame = if nat_eq proto 6 then with_checksum (at + 16) sum frame else with_udp_checksum (at + 6) sum frame

-- the frame with the checksums that it will have
abbrev pub with_checksums : Headers → Option Ports → List ℕ → List ℕ
with_checksums to None frame = with_checksum 24 (addresses_difference frame to) frame
with_checksums to (Some ports) frame =
    let changed = with_checksum 24 (addresses_difference frame to) frame in
    with_port_checksum ports.at to.proto (addresses_difference frame to + ports_difference ports changed) changed

-- the frame with the addresses and ports
abbrev pub with_fields : Headers → Option Ports → List ℕ → List ℕ
with_fields to None frame = with_address 30 to.dst (with_address 26 to.src frame)
with_fields to (Some ports) frame =
    put_word (ports.at + 2) ports.dport (put_word ports.at ports.sport (with_address 30 to.dst (with_address 26 to.src frame)))
