-- The prefix of the first bits of an address.
use Rattle.std.specs.Prelude.{ℕ, ◌-◌, ◌*◌, ◌/◌, ◌%◌, ◌^◌, ◌<◌}
use Rattle.std.proofs.Common.{min, lit<}
use Rattle.std.proofs.Math.Nat.{div-mul-le_self, lt_of_le_of_lt, min-le_right, mod-lt, mul-mod_left}
use Rattle.net_types.specs.declared.prefix.Prefix.{Prefix}

-- the address with zeros behind the first n bits
abbrev pub cleared_address : ℕ → ℕ → ℕ
cleared_address n a = a % 2 ^ 32 / 2 ^ (32 - min n 32) * 2 ^ (32 - min n 32)

-- it has 32 bits
pub cleared_in_range : (n a : ℕ) → cleared_address n a < 2 ^ 32
cleared_in_range n a = lt_of_le_of_lt (div-mul-le_self (a % 2 ^ 32) (2 ^ (32 - min n 32))) (mod-lt a (lit< tt))

-- the prefix of the first n bits
unfoldable pub first_bits_of : ℕ → ℕ → Prefix
first_bits_of n a = record {
  address = record { 0 = cleared_address n a };
  len = min n 32;
  in_range = cleared_in_range n a;
  short = min-le_right n 32;
  host_bits_zero = mul-mod_left (a % 2 ^ 32 / 2 ^ (32 - min n 32)) (2 ^ (32 - min n 32));
}
