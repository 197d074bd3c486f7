-- What is known of a frame and of the place of its ports.
use Rattle.std.specs.Prelude.{◌≡◌, ℕ, ◌+◌, ◌≤◌, ◌<◌, List, slice_index}

-- each octet is below 256
abbrev pub AreOctets : List ℕ → Type 0
AreOctets frame = (k : ℕ) → slice_index frame k < 256

-- behind the addresses, with the least header of their protocol in a frame of this length
pub record IsPlaced (proto len at : ℕ) : Type 0 where
  pub behind : 34 ≤ at
  pub udp : at + 8 ≤ len
  pub tcp : proto ≡ 6 → at + 20 ≤ len
