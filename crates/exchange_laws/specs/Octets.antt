-- Octets and MACs.
use Rattle.std.specs.Prelude.{◌≡◌, ℕ, ◌<◌, List, length, slice_index}
use Rattle.net_types.specs.declared.address.Mac.{Mac}

-- each is an octet
abbrev pub AreOctets : List ℕ → Type 0
AreOctets xs = (k : ℕ) → slice_index xs k < 256

-- a MAC is six octets
pub record IsMac (mac : Mac) : Type 0 where
  pub six : length mac.0 ≡ 6
  pub octets : AreOctets mac.0
