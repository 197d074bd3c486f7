-- The cubes so far are there, and all are meets where these and those before are.
use Rattle.std.proofs.Common.{List, take}
use Rattle.cells.specs.Cells.{AreMeets}
use Rattle.net_types.specs.Sets.{Member}
use Rattle.net_types.specs.declared.cube.Cube.{Cube}
use Rattle.block_build.proofs.cutting.add_each.Given as goal

abbrev pub invariant-loop-atom : goal.invariant-loop-atom
invariant-loop-atom l = record {
  there : (c : Cube) → Member c (take l.atom-index l.atoms) → Member c l.cells;
  meets : (among : List Cube) → AreMeets among l.fn.cells → AreMeets among l.atoms → AreMeets among l.cells;
}
