-- The numbers that generated lines are drawn from (SplitMix64 of Steele, Lea and Flood, 2014).
use Rattle.std.specs.Prelude.{ℕ, ◌+◌, ◌*◌, ◌/◌, ◌%◌, ◌^◌}
use Rattle.std.specs.Int.Bits.{bit_xor}

-- a sum of 64 bits
abbrev pub plus : ℕ → ℕ → ℕ
plus a b = (a + b) % 2 ^ 64

-- a product of 64 bits
abbrev pub times : ℕ → ℕ → ℕ
times a b = a * b % 2 ^ 64

-- a number with its bits from a place on folded onto the lowest ones
abbrev pub onto_lowest : ℕ → ℕ → ℕ
onto_lowest place z = bit_xor z (z / 2 ^ place)

-- a number so far on from the seed as the golden ratio says, once for each line
abbrev pub strode : ℕ → ℕ → ℕ
strode seed i = plus seed (times (plus i 1) 11400714819323198485)

-- mixed twice by a factor, and folded
abbrev pub mixed : ℕ → ℕ
mixed z = onto_lowest 31 (times (onto_lowest 27 (times (onto_lowest 30 z) 13787848793156543929)) 10723151780598845931)

-- the number that a line is drawn from
abbrev pub drawn : ℕ → ℕ → ℕ
drawn seed i = mixed (strode seed i)

-- a number below a bound, from the bits from a place on
abbrev pub below : ℕ → ℕ → ℕ → ℕ
below bound place z = z / 2 ^ place % bound
