-- One fewer, where the last one isn't reached.
use Rattle.std.proofs.Common.{◌-◌, length}
use Rattle.net_types.proofs.FindLemmas.{Member-take}
use Rattle.block_build.proofs.BoundLemmas.{front_all}
use Rattle.block_build.proofs.spread.reached.Goals as goal

pub loop-best-preserved : goal.loop-best-preserved
loop-best-preserved c =
    let front = c.loop-best.front.now in
    record {
      all = front_all c.args.left c.args.best c.args.items.now c.args.receivers.now front c.ends_unreached.result c.loop-best-test.true c.ends_unreached.ensures c.loop-best.invariant.all;
      theirs = λ r k. c.loop-best.invariant.theirs r (Member-take (length front - 1) front r k);
    }
