-- The cubes so far are among the cells.
use Rattle.std.proofs.Common.{take}
use Rattle.net_types.specs.Sets.{Member}
use Rattle.net_types.specs.declared.cube.Cube.{Cube}
use Rattle.block_build.proofs.tables.are_among.Given as goal

abbrev pub invariant-loop-cube : goal.invariant-loop-cube
invariant-loop-cube l = (c : Cube) → Member c (take l.cube-index l.cubes) → Member c l.cells
