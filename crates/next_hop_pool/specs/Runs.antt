-- Runs of 256 places each, and which of them are marked.
use Rattle.std.specs.Prelude.{◌≡◌, ℕ, ◌*◌, ◌/◌, ◌≤◌, Bool, true, false, List, length, slice_index_or}
use Rattle.next_hop_pool.specs.Free.{IsKept}

-- there is a mark for each run that has places, and all places of a marked run are taken
pub record AreMarked (taken full : List Bool) : Type 0 where
  pub enough : length taken ≤ 256 * length full
  pub passed : (k : ℕ) → slice_index_or full (k / 256) false ≡ true → slice_index_or taken k true ≡ true

-- the pool's invariant
pub record IsHeld (base : ℕ) (places full : List Bool) (least free : ℕ) : Type 0 where
  pub kept : IsKept base places least free
  pub marked : AreMarked places full
