-- Prefixes of addresses (RFC 4271 4.3).
use Rattle.std.specs.Prelude.{Bool, ◌&&◌, nat_le, Option, Some, None, if◌then◌else◌, refl}
use Rattle.std.proofs.Common.{lit<, lit≤}
use Rattle.net_types.specs.declared.address.Ip.{Ip}
use Rattle.net_types.specs.declared.prefix.Prefix.{Prefix}
use Rattle.net_types.specs.Bits.{same_bits}

-- an address begins with the bits of a prefix
abbrev pub covers : Prefix → Ip → Bool
covers p ip = same_bits p.len p.address.0 ip.0

-- a prefix is no shorter than another, which covers its address
abbrev pub lies_within : Prefix → Prefix → Bool
lies_within p q = nat_le q.len p.len && covers q p.address

-- the longer of two prefixes of which one lies within the other
unfoldable pub meet_prefixes : Prefix → Prefix → Option Prefix
meet_prefixes p q = if lies_within p q then Some p else (if lies_within q p then Some q else None)

-- the prefix of all addresses
abbrev pub any_prefix : Prefix
any_prefix = record { address = record { 0 = 0 }; len = 0; in_range = lit< tt; short = lit≤ tt; host_bits_zero = refl }
