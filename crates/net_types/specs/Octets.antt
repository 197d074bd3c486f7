-- Octets and the numbers that they spell, the highest octet first.
use Rattle.std.specs.Prelude.{ℕ, ◌+◌, ◌*◌, ◌/◌, ◌%◌, nat_eq, Bool, List, [], ◌∷◌, slice_index}
use Rattle.std.specs.Cmp.Lexicographic.{pointwise}
use Rattle.net_types.specs.declared.address.Ip.{Ip}

-- the same octets in the same order
abbrev pub same_octets : List ℕ → List ℕ → Bool
same_octets a b = pointwise nat_eq a b

-- a number in two octets; a greater one loses its upper part, so 65537 is written as 1 is
abbrev pub word : ℕ → List ℕ
word n = n / 256 % 256 ∷ n % 256 ∷ []

-- the number in two octets at a place
abbrev pub word_at : ℕ → List ℕ → ℕ
word_at at octets = 256 * slice_index octets at + slice_index octets (at + 1)

-- the address in four octets at a place
abbrev pub address_at : ℕ → List ℕ → Ip
address_at at octets = record { 0 = 65536 * word_at at octets + word_at (at + 2) octets }

-- the four octets of an address
abbrev pub address_octets : Ip → List ℕ
address_octets ip = ip.0 / 16777216 ∷ ip.0 / 65536 % 256 ∷ ip.0 / 256 % 256 ∷ ip.0 % 256 ∷ []
