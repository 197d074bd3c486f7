use Rattle.std.proofs.Common.{◌<◌, ◌≤◌, length, subst}
use Rattle.fast_path.specs.Offers.{adverts_to}
use Rattle.fast_path.proofs.OffersCounted.{number_end, number_step}
use Rattle.fast_path.proofs.offering.offers_of.Goals as goal

pub loop-number-preserved : goal.loop-number-preserved
loop-number-preserved c =
    number_step (λ who. adverts_to c.args.proposal.now who 0 c.args.tagged.now) c.loop-number.offers.items c.offer_each.new.offers.items _ c.loop-number.number (length c.args.names.now.participants)
    (subst (λ xs. c.loop-number.number < length xs) c.participants.ensures.all c.loop-number-test.true) c.loop-number.invariant c.in_ok-offer_each.ensures

pub returns : goal.returns
returns c =
    number_end (λ who. adverts_to c.args.proposal.now who 0 c.args.tagged.now) c.loop-number.offers.items _ c.loop-number.number (length c.args.names.now.participants)
    (subst (λ xs. length xs ≤ c.loop-number.number) c.participants.ensures.all c.loop-number-test.false) c.loop-number.invariant
