-- Cubes of which the first with a packet's headers lies within each atom that has them.
use Rattle.std.specs.Prelude.{◌≡◌, true, List, [], ◌∷◌, ◌++◌, if◌then◌else◌}
use Rattle.net_types.specs.declared.cube.Cube.{Cube}
use Rattle.net_types.specs.declared.headers.Headers.{Headers}
use Rattle.net_types.specs.Cubes.{has, everything, meet_cubes, lies_within_cube}
use Rattle.net_types.specs.Meets.{IsMeet, cons_some}
use Rattle.net_types.specs.Sets.{Member}
use Rattle.classifier.specs.Seen.{cube_eq}
use Rattle.cells.specs.Adds.{adds}

-- the first of the cubes that has the headers; that of everything where none has
abbrev pub first_of : List Cube → Headers → Cube
first_of [] h = everything
first_of (c ∷ cs) h = if has c h then c else first_of cs h

-- the first cube with some headers lies within each of the cubes that has them: with each two that meet their meet stands before them
abbrev pub IsClosed : List Cube → Type 0
IsClosed cubes = (h : Headers) (a : Cube) → Member a cubes → has a h ≡ true → lies_within_cube (first_of cubes h) a ≡ true

-- each cube is a meet of the atoms
abbrev pub AreMeets : List Cube → List Cube → Type 0
AreMeets atoms cubes = (x : Cube) → Member x cubes → IsMeet atoms x

-- the first cube with some headers lies within each atom that has them, and each cube is a meet of the atoms
pub record AreCells (atoms cubes : List Cube) : Type 0 where
  pub narrow : (h : Headers) (a : Cube) → Member a atoms → has a h ≡ true → lies_within_cube (first_of cubes h) a ≡ true
  pub meets : (x : Cube) → Member x cubes → IsMeet atoms x

-- the meets of a cube with each of a list, where they have headers
abbrev pub met_by : Cube → List Cube → List Cube
met_by c [] = []
met_by c (x ∷ xs) = cons_some (meet_cubes c x) (met_by c xs)

-- those of a list that don't lie within a cube
abbrev pub outside : Cube → List Cube → List Cube
outside c [] = []
outside c (x ∷ xs) = if lies_within_cube x c then outside c xs else x ∷ outside c xs

-- the cubes cut by one more: its meets with them, each once, itself, and those that don't lie within it
abbrev pub cut : Cube → List Cube → List Cube
cut c xs = adds cube_eq (adds cube_eq [] (met_by c xs)) (c ∷ []) ++ outside c xs
