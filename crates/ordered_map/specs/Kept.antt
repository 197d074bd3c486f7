-- What holds of a map's parts.
use Rattle.std.specs.Prelude.{◌≡◌, ℕ, ◌+◌, ◌≤◌, ◌<◌, ◌^◌, IsTrue, List, length}
use Rattle.std.specs.declared.cmp.Ordering.{Ordering}
use Rattle.std.specs.FinMap.Entries.{is_sorted}

-- the keys rise, there is a box for each new key that there is room for, and the count is right and stays one
pub record IsKept {K V : Type 0} (R : K → K → Ordering) (entries : List (K × V)) (spare room count : ℕ) : Type 0 where
  pub rising : IsTrue (is_sorted R entries)
  pub boxes : room ≤ spare
  pub counted : count ≡ length entries
  pub fits : count + room < 2 ^ 64
