use Rattle.std.proofs.Common.{◌<◌, ◌≤◌, length, subst}
use Rattle.fast_path.proofs.OffersCounted.{number_end, number_step}
use Rattle.job_end.specs.Offers.{offers_at}
use Rattle.job_end.proofs.offering.offers_of.Goals as goal

pub offer_each-requires : goal.offer_each-requires
offer_each-requires c = subst (λ n. c.loop-number.number < n) c.requires (subst (λ xs. c.loop-number.number < length xs) c.participants.ensures.all c.loop-number-test.true)

pub loop-number-preserved : goal.loop-number-preserved
loop-number-preserved c =
    number_step (offers_at c.args.adverts.now.present c.args.moves.now) c.loop-number.offers.items c.offer_each.new.offers.items _ c.loop-number.number (length c.args.names.now.participants)
    (subst (λ xs. c.loop-number.number < length xs) c.participants.ensures.all c.loop-number-test.true) c.loop-number.invariant c.in_ok-offer_each.ensures

pub returns : goal.returns
returns c =
    number_end (offers_at c.args.adverts.now.present c.args.moves.now) c.loop-number.offers.items _ c.loop-number.number (length c.args.names.now.participants)
    (subst (λ xs. length xs ≤ c.loop-number.number) c.participants.ensures.all c.loop-number-test.false) c.loop-number.invariant
