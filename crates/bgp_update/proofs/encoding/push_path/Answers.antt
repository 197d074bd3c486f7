-- One more is written.
use Rattle.bgp_update.proofs.WrittenLists.{written_more}
use Rattle.bgp_update.proofs.encoding.push_path.Goals as goal

pub loop-segment-preserved : goal.loop-segment-preserved
loop-segment-preserved c = written_more _ _ _ _ _ _ _ c.loop-segment-test.true c.segment-item.is c.loop-segment.invariant c.in_ok-push_segment.ensures
