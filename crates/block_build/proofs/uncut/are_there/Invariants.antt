-- So it is with the first ones.
use Rattle.std.proofs.Common.{take}
use Rattle.block_build.specs.Closed.{AreThere}
use Rattle.block_build.proofs.uncut.are_there.Given as goal

abbrev pub invariant-loop-test : goal.invariant-loop-test
invariant-loop-test l = AreThere l.lines l.cube (take l.test-index l.tests)
