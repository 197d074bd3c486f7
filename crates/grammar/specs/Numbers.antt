-- Numbers in octets, the highest first.
use Rattle.std.specs.Prelude.{ℕ, ◌+◌, ◌*◌, List, [], ◌∷◌}
use Rattle.grammar.specs.Formats.{Format, pure, octet, ◌>>=◌}

-- The number that octets stand for behind the number v: 3, 4 behind 2 give 2 * 65536 + 3 * 256 + 4.
abbrev pub big_endian_from : ℕ → List ℕ → ℕ
big_endian_from v [] = v
big_endian_from v (c ∷ s) = big_endian_from (v * 256 + c) s

-- The number that octets stand for.
abbrev pub big_endian : List ℕ → ℕ
big_endian s = big_endian_from 0 s

-- A number of two octets.
abbrev pub two_octets : {F : Type 0} → F → Format F ℕ
two_octets fault = do
  a ← octet fault
  b ← octet fault
  pure (a * 256 + b)

-- A number of four octets.
abbrev pub four_octets : {F : Type 0} → F → Format F ℕ
four_octets fault = do
  a ← two_octets fault
  b ← two_octets fault
  pure (a * 65536 + b)
