-- What holds of a map.
use Rattle.std.specs.Prelude.{◌≡◌, ℕ, ◌+◌, ◌≤◌, ◌<◌, ◌^◌, length}
use Rattle.prefix_map.specs.Parts.{entries_in, AreParts}
use Rattle.prefix_map.specs.declared.parts.Parts.{Parts}

-- there is a box for each prefix that there is room for, and the count is right
pub record IsKept {V : Type 0} (parts : Parts V) (spare room count : ℕ) : Type 0 where
  pub whole : AreParts parts
  pub boxes : room ≤ spare
  pub counted : count ≡ length (entries_in parts)
  pub fits : count + room < 2 ^ 64
