-- What the set knows stands in each list that has what it knew and the cubes.
use Rattle.std.proofs.Common.{List}
use Rattle.net_types.specs.declared.cube.Cube.{Cube as AnyCube}
use Rattle.net_types.specs.Sets.{Member}
use Rattle.cells.specs.Known.{AreAmong}
use Rattle.cells.proofs.cells.note.Given as goal

abbrev pub invariant-loop-cube : goal.invariant-loop-cube
invariant-loop-cube l = (all : List AnyCube) → ((cube : AnyCube) → Member cube l.cubes → Member cube all) → AreAmong l.fn.known all → AreAmong l.known all
