use Rattle.std.proofs.Common.{◌<◌, ◌+◌, length, length-set, sym, subst, take, ◌∙◌, arith}
use Rattle.net_types.proofs.MemberLemmas.{Member-at}
use Rattle.fast_path.proofs.OfferedPresent.{length_all}
use Rattle.fast_path.proofs.OffersCounted.{counted_more, few_more, number_at}
use Rattle.fast_path.proofs.OffersNeeded.{IsAsBefore, as_before, offered_next, place_enough, place_for-le}
use Rattle.fast_path.specs.Demands.{greater}
use Rattle.fast_path.specs.Offers.{offered_all}
use Rattle.fast_path.proofs.offering.places_by_pending.Goals as goal

pub place_for-requires : goal.place_for-requires
place_for-requires c = c.requires _ (Member-at c.args.offers.now c.loop-offer.offer-index c.offer-item.result c.offer-item.result c.loop-offer-test.true (sym c.offer-item.is))

pub index_mut-requires : goal.index_mut-requires
index_mut-requires c =
    let known : c.offer-item.result.who.0 < length c.args.adverts.now.told = c.requires _ (Member-at c.args.offers.now c.loop-offer.offer-index c.offer-item.result c.offer-item.result c.loop-offer-test.true (sym c.offer-item.is)) in
    let size = c.loop-offer.invariant.size in
    omega (arith, known, size)

pub overflow_add-index_mut : goal.overflow_add-index_mut
overflow_add-index_mut c =
    let below : c.loop-offer.offer-index < length c.args.offers.now = c.loop-offer-test.true in
    let known : c.offer-item.result.who.0 < length c.args.adverts.now.told = c.requires _ (Member-at c.args.offers.now c.loop-offer.offer-index c.offer-item.result c.offer-item.result c.loop-offer-test.true (sym c.offer-item.is)) in
    let few = c.loop-offer.invariant.few c.offer-item.result.who.0 in
    let now = number_at c.loop-offer.places.items c.offer-item.result.who.0 c.index_mut.result.now (subst (λ n. c.offer-item.result.who.0 < n) (sym c.loop-offer.invariant.long) known) c.index_mut.ensures.value in
    let one = place_for-le c.args.adverts.now.told c.args.adverts.now.present c.loop-offer.greatest c.offer-item.result in
    omega (arith, few, now, one, c.place_for.ensures)

pub loop-offer-preserved : goal.loop-offer-preserved
loop-offer-preserved c =
    let before = c.args.adverts.now in
    let at = c.loop-offer.offer-index in
    let x = c.offer-item.result in
    let all = offered_all before.present (take at c.args.offers.now) in
    let known : x.who.0 < length c.args.adverts.now.told = c.requires _ (Member-at c.args.offers.now at x x c.loop-offer-test.true (sym c.offer-item.is)) in
    let stands : x.who.0 < length c.loop-offer.places.items = subst (λ n. x.who.0 < n) (sym c.loop-offer.invariant.long) known in
    let there : x.who.0 < length all = subst (λ n. x.who.0 < n) (sym c.len.ensures.told ∙ c.len.ensures.present ∙ sym (length_all before.present (take at c.args.offers.now))) known in
    let one = place_for-le before.told before.present c.loop-offer.greatest x in
    let enough = place_enough before.told before.present all c.loop-offer.greatest x c.loop-offer.invariant.same in
    record {
      size = c.loop-offer.invariant.size;
      long = length-set c.loop-offer.places.items x.who.0 (c.index_mut.result.now + c.place_for.result) ∙ c.loop-offer.invariant.long;
      counted = counted_more _ before.present c.args.offers.now at x c.loop-offer.places.items c.index_mut.result.now c.place_for.result c.loop-offer-test.true c.offer-item.is stands c.loop-offer.invariant.counted c.index_mut.ensures.value
          (omega (arith, enough, c.place_for.ensures));
      few = few_more c.loop-offer.places.items at x.who.0 c.index_mut.result.now c.place_for.result c.loop-offer.invariant.few stands c.index_mut.ensures.value (omega (arith, one, c.place_for.ensures));
      same = subst (IsAsBefore before.present (offered_all before.present (take (at + 1) c.args.offers.now))) (sym c.greater-greatest.ensures)
          (subst (λ now. IsAsBefore before.present now (greater c.loop-offer.greatest x.who x.prefix)) (sym (offered_next before.present c.args.offers.now at x c.loop-offer-test.true c.offer-item.is))
          (as_before before.present all c.loop-offer.greatest x there c.loop-offer.invariant.same));
    }
