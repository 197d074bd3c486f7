-- Places of cubes that are noted of cells, one cube after another.
use Rattle.std.specs.Prelude.{◌≡◌, ◌⊎◌, ◌<◌, ◌/◌, ℕ, Bool, true, false, if◌then◌else◌, List, Option, Some, None, length, slice_index_or}
use Rattle.std.specs.Option.{is_some}
use Rattle.std.specs.List.{slice_get}
use Rattle.net_types.specs.declared.cube.Cube.{Cube}
use Rattle.place_sets.specs.Places.{has_place}
use Rattle.cells.specs.Firsts.{noted}

-- what was found of a cell
abbrev pub found_at : List (Option ℕ) → ℕ → Option ℕ
found_at found p = slice_index_or found p None

-- some of the cells were looked at whether they lie within the cube at a place, among them those that were to be
pub record AreNoted (place : ℕ) (cube : Cube) (cells : List Cube) (meant : ℕ → Type 0) (old new : List (Option ℕ)) : Type 0 where
  pub long : length new ≡ length old
  pub each : (p : ℕ) (c : Cube) → slice_get cells p ≡ Some c → (found_at new p ≡ found_at old p) ⊎ (found_at new p ≡ noted place cube c (found_at old p))
  pub these : (p : ℕ) (c : Cube) → meant p → slice_get cells p ≡ Some c → found_at new p ≡ noted place cube c (found_at old p)

-- all of them were
pub record AreAllNoted (place : ℕ) (cube : Cube) (cells : List Cube) (old new : List (Option ℕ)) : Type 0 where
  pub long : length new ≡ length old
  pub all : (p : ℕ) (c : Cube) → slice_get cells p ≡ Some c → found_at new p ≡ noted place cube c (found_at old p)

-- what a cell has once it was given a place: what it had, if anything
abbrev pub given : ℕ → Option ℕ → Option ℕ
given place (Some earlier) = Some earlier
given place None = Some place

-- those of the cells that are meant were given a place
pub record AreGiven (place : ℕ) (meant : ℕ → Bool) (old new : List (Option ℕ)) : Type 0 where
  pub long : length new ≡ length old
  pub each : (p : ℕ) → p < length old → found_at new p ≡ if meant p then given place (found_at old p) else found_at old p

-- something was found of each cell of the blocks of a set
abbrev pub AreFound : List Cube → List (Option ℕ) → List ℕ → Type 0
AreFound cells found done = (p : ℕ) → p < length cells → has_place done (p / 64) ≡ true → is_some (found_at found p) ≡ true

-- something was found of each cell of the other blocks
abbrev pub AreLeft : List Cube → List (Option ℕ) → List ℕ → Type 0
AreLeft cells found left = (p : ℕ) → p < length cells → has_place left (p / 64) ≡ false → is_some (found_at found p) ≡ true
