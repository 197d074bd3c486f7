-- One more is written.
use Rattle.bgp_update.proofs.WrittenLists.{written_more}
use Rattle.bgp_update.proofs.encoding.push_highest.Goals as goal

pub loop-unknown-preserved : goal.loop-unknown-preserved
loop-unknown-preserved c = written_more _ _ _ _ _ _ _ c.loop-unknown-test.true c.unknown-item.is c.loop-unknown.invariant c.in_ok-push_unknown.ensures
