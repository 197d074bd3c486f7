-- So it is with one more.
use Rattle.net_types.specs.declared.cube.Cube.{Cube}
use Rattle.block_build.proofs.ClosedLemmas.{each_more}
use Rattle.block_build.specs.Closed.{IsThere}
use Rattle.block_build.proofs.uncut.are_there.Goals as goal

pub loop-test-preserved : goal.loop-test-preserved
loop-test-preserved c =
    each_more (λ (test : Cube). IsThere c.args.lines.now c.args.cube.now test) c.args.tests.now c.loop-test.test-index c.test-item.result c.loop-test-test.true c.test-item.is
    c.loop-test.invariant (c.is_there.ensures c.if-not-is_there.false)
