-- Four octets more are written.
use Rattle.bgp_update.proofs.WrittenLists.{four_written, written_at}
use Rattle.net_types.specs.Updates.{long}
use Rattle.bgp_update.proofs.encoding.push_longs.Goals as goal

pub loop-number-preserved : goal.loop-number-preserved
loop-number-preserved c =
    written_at long _ _ 0 _ _ _ c.loop-number-test.true c.loop-number.invariant
    (four_written _ _ _ _ _ _ _ _ c.long.ensures.number c.in_ok-reserve.ensures.items c.push_reserved.ensures.items c.push_reserved-in-loop-number.ensures.items
    c.push_reserved-in-loop-number-2.ensures.items c.push_reserved-in-loop-number-3.ensures.items)
