use Rattle.std.proofs.Common.{◌≡◌, ◌≤◌, ◌++◌, List, length, drop}
use Rattle.net_types.specs.declared.cube.Cube.{Cube}
use Rattle.net_types.specs.Meets.{meets}
use Rattle.policy_compile.specs.Sets.{IsUpTo}
use Rattle.policy_compile.proofs.meets.push_cubes.Given as goal

abbrev pub invariant-loop-left : goal.invariant-loop-left
invariant-loop-left l = record {
  in_range : l.left ≤ length l.cubes;
  kept : (others : List Cube) → l.fn.kept.keys ≡ meets others → IsUpTo l.limit l.kept.keys (meets (drop l.left l.cubes ++ others));
}

abbrev pub decreases-loop-left : goal.decreases-loop-left
decreases-loop-left l = l.left
