-- One more is written.
use Rattle.net_types.specs.Updates.{prefix_octets}
use Rattle.bgp_update.proofs.WrittenLists.{written_more}
use Rattle.bgp_update.proofs.encoding.push_prefixes.Goals as goal

pub loop-prefix-preserved : goal.loop-prefix-preserved
loop-prefix-preserved c = written_more prefix_octets _ _ _ _ _ _ c.loop-prefix-test.true c.prefix-item.is c.loop-prefix.invariant c.in_ok-push_prefix.ensures
