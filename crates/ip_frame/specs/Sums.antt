-- The sums that a checksum changes by (RFC 1624 3).
use Rattle.std.specs.Prelude.{ℕ, ◌+◌, ◌-◌, ◌/◌, ◌%◌, nat_eq, List, if◌then◌else◌}
use Rattle.net_types.specs.Octets.{word_at}
use Rattle.net_types.specs.Frames.{folded, put_word}
use Rattle.net_types.specs.declared.address.Ip.{Ip}

-- what a word adds: the old one's complement and the new one, where they differ
abbrev pub difference : ℕ → ℕ → ℕ
difference old new = if nat_eq old new then 0 else 65535 - old + new

-- what an address adds by its two words
abbrev pub difference_at : ℕ → List ℕ → Ip → ℕ
difference_at at frame to = difference (word_at at frame) (to.0 / 65536) + difference (word_at (at + 2) frame) (to.0 % 65536)

-- a checksum after a sum; a sum of 0 leaves it as it is
abbrev pub updated : ℕ → ℕ → ℕ
updated old sum = 65535 - folded (65535 - old + sum)

-- a UDP checksum of 0 stays, and a result of 0 is written as 65535 (RFC 768)
abbrev pub updated_udp : ℕ → ℕ → ℕ
updated_udp old sum = if nat_eq old 0 then 0 else if nat_eq (updated old sum) 0 then 65535 else updated old sum

-- the frame with the checksum at a place after a sum
abbrev pub with_checksum : ℕ → ℕ → List ℕ → List ℕ
with_checksum at sum frame = put_word at (updated (word_at at frame) sum) frame

-- the same by the rules of UDP
abbrev pub with_udp_checksum : ℕ → ℕ → List ℕ → List ℕ
with_udp_checksum at sum frame = put_word at (updated_udp (word_at at frame) sum) frame

-- the frame with an address at a place
abbrev pub with_address : ℕ → Ip → List ℕ → List ℕ
with_address at ip frame = put_word (at + 2) (ip.0 % 65536) (put_word at (ip.0 / 65536) frame)
