-- One more cube is a meet.
use Rattle.net_types.specs.Meets.{IsMeet}
use Rattle.classifier.specs.declared.line.Line.{Line}
use Rattle.block_build.proofs.ClosedLemmas.{each_more, meet_kept}
use Rattle.block_build.proofs.tested.tests_of.Goals as goal

pub loop-line-preserved : goal.loop-line-preserved
loop-line-preserved c =
    each_more (λ (z : Line). IsMeet c.push_tests_of.new.tests.items z.cube) c.args.lines.now c.loop-line.line-index c.line-item.result c.loop-line-test.true c.line-item.is
    (λ z k. meet_kept c.loop-line.tests.items c.push_tests_of.new.tests.items z.cube c.in_ok-push_tests_of.ensures.kept (c.loop-line.invariant z k))
    c.in_ok-push_tests_of.ensures.meet
