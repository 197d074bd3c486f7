-- Cubes behind an assignment.
use Rattle.std.specs.Prelude.{Option, Some, None}
use Rattle.net_types.specs.Cubes.{meet_cubes, pull_cube}
use Rattle.net_types.specs.declared.cube.Cube.{Cube}
use Rattle.net_types.specs.declared.headers.Assign.{Assign}

-- the meet with a cube that was found, if any
abbrev pub meet_found : Cube → Option Cube → Option Cube
meet_found a None = None
meet_found a (Some b) = meet_cubes a b

-- the cube of the headers that lie in the first and that the assignment takes into the second, where there are any
abbrev pub meet_behind : Cube → Cube → Assign → Option Cube
meet_behind a b set = meet_found a (pull_cube b set)
