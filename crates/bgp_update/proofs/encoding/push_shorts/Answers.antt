-- Two octets more are written.
use Rattle.std.proofs.Common.{get_or}
use Rattle.bgp_update.proofs.WrittenLists.{two_written, written_at}
use Rattle.net_types.specs.Updates.{short}
use Rattle.bgp_update.proofs.encoding.push_shorts.Goals as goal

pub loop-asn-preserved : goal.loop-asn-preserved
loop-asn-preserved c =
    written_at short _ _ 0 _ _ _ c.loop-asn-test.true c.loop-asn.invariant
    (two_written _ _ _ _ _ (get_or c.args.asns.now c.loop-asn.asn-index 0) c.short.ensures c.in_ok-reserve.ensures.items c.push_reserved.ensures.items c.push_reserved-in-loop-asn.ensures.items)
