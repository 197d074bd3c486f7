-- Sets that know some of the cubes of a list.
use Rattle.std.specs.Prelude.{◌≡◌, true, List}
use Rattle.std.specs.HashSet.{contains}
use Rattle.net_types.specs.declared.cube.Cube.{Cube}
use Rattle.net_types.specs.Sets.{Member}
use Rattle.classifier.specs.Seen.{Cubes, cube_eq}
use Rattle.cells.specs.Cells.{IsClosed}

-- each cube that the set has stands in the list
abbrev pub AreAmong : Cubes → List Cube → Type 0
AreAmong known cubes = (c : Cube) → contains cube_eq known c ≡ true → Member c cubes

-- the cubes are closed, and the set has some of them
pub record AreKnown (cubes : List Cube) (known : Cubes) : Type 0 where
  pub closed : IsClosed cubes
  pub among : AreAmong known cubes
