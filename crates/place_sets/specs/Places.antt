-- Sets of places, as bits of words.
use Rattle.std.specs.Prelude.{ℕ, Bool, ◌==◌, List, ◌/◌, ◌%◌, slice_index}
use Rattle.std.specs.Int.{bit_at}

-- the bit of the place is 1; where its word is wanting, it is 0
unfoldable pub has_place : List ℕ → ℕ → Bool
has_place words place = bit_at (slice_index words (place / 64)) (place % 64) == 1
