-- The parts were read and joined.
use Rattle.bgp_update.proofs.Decoded.{decoded}
use Rattle.bgp_update.proofs.decoding.read.Goals as goal

pub returns : goal.returns
returns c =
    decoded c.args.bytes.now c.in_ok-withdrawn.rest.now c.in_ok-withdrawn.withdrawn.items c.in_ok-withdrawn.attributes.items c.in_ok-announced.announced.items c.update.result
    c.in_ok-withdrawn.ensures.reads c.in_ok-announced.ensures c.update.ensures
