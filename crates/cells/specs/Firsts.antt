-- Of each cell the first of some cubes that it lies within.
use Rattle.std.specs.Prelude.{ℕ, suc, Bool, List, [], ◌∷◌, map, Option, Some, None, if◌then◌else◌}
use Rattle.std.specs.Option.{option_map}
use Rattle.net_types.specs.declared.cube.Cube.{Cube}
use Rattle.net_types.specs.declared.headers.Headers.{Headers}
use Rattle.net_types.specs.Cubes.{has, lies_within_cube}

-- the place of the first that passes a test
abbrev pub place_by : {A : Type 0} → (A → Bool) → List A → Option ℕ
place_by test [] = None
place_by test (x ∷ xs) = if test x then Some 0 else option_map suc (place_by test xs)

-- the place of the first of the cubes that one lies within
abbrev pub first_place : Cube → List Cube → Option ℕ
first_place c cubes = place_by (lies_within_cube c) cubes

-- the place of the first of the cubes that has some headers
abbrev pub first_with : Headers → List Cube → Option ℕ
first_with h cubes = place_by (λ a. has a h) cubes

-- of each cell the place of the first of the cubes that it lies within
abbrev pub firsts : List Cube → List Cube → List (Option ℕ)
firsts cubes cells = map (λ c. first_place c cubes) cells

-- what a cell has once it was looked at whether it lies within the cube at a place: what it had, if anything
abbrev pub noted : ℕ → Cube → Cube → Option ℕ → Option ℕ
noted place cube cell (Some earlier) = Some earlier
noted place cube cell None = if lies_within_cube cell cube then Some place else None
