-- The cubes so far are meets.
use Rattle.std.proofs.Common.{take}
use Rattle.block_build.specs.Bounds.{AreMeets}
use Rattle.block_build.proofs.tested.tests_of.Given as goal

abbrev pub invariant-loop-line : goal.invariant-loop-line
invariant-loop-line l = AreMeets l.tests.items (take l.line-index l.lines)
