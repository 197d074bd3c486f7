use Rattle.fast_path.proofs.OffersCounted.{adverts_step}
use Rattle.fast_path.proofs.offering.offer_each.Goals as goal

pub loop-at-preserved : goal.loop-at-preserved
loop-at-preserved c =
    adverts_step c.args.proposal.now c.args.who c.args.tagged.now c.loop-at.at c.index-tagged-at.result c.loop-at.offers.items c.offer.new.offers.items _
    c.loop-at-test.true c.index-tagged-at.is c.loop-at.invariant c.in_ok-offer.ensures
