-- The cells so far are rules.
use Rattle.std.proofs.Common.{◌≡◌, take}
use Rattle.block_build.specs.ByCells.{dropping}
use Rattle.block_build.proofs.by_cells.dropping.Given as goal

abbrev pub invariant-loop-cube : goal.invariant-loop-cube
invariant-loop-cube l = l.lines.items ≡ dropping (take l.cube-index l.cubes)
