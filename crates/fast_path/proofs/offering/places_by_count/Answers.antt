use Rattle.std.proofs.Common.{◌<◌, ◌+◌, length, length-set, sym, subst, take, ◌∙◌, arith}
use Rattle.net_types.proofs.MemberLemmas.{Member-at}
use Rattle.fast_path.proofs.OffersCounted.{counted_more, few_more, number_at}
use Rattle.fast_path.proofs.OffersNeeded.{place_taken-le}
use Rattle.fast_path.specs.Offers.{offered_all}
use Rattle.fast_path.proofs.offering.places_by_count.Goals as goal

pub index_mut-requires : goal.index_mut-requires
index_mut-requires c =
    let known : c.offer-item.result.who.0 < c.args.participants = c.requires _ (Member-at c.args.offers.now c.loop-offer.offer-index c.offer-item.result c.offer-item.result c.loop-offer-test.true (sym c.offer-item.is)) in
    let size = c.loop-offer.invariant.size in
    omega (arith, known, size)

pub overflow_add-index_mut : goal.overflow_add-index_mut
overflow_add-index_mut c =
    let below : c.loop-offer.offer-index < length c.args.offers.now = c.loop-offer-test.true in
    let known : c.offer-item.result.who.0 < c.args.participants = c.requires _ (Member-at c.args.offers.now c.loop-offer.offer-index c.offer-item.result c.offer-item.result c.loop-offer-test.true (sym c.offer-item.is)) in
    let few = c.loop-offer.invariant.few c.offer-item.result.who.0 in
    let now = number_at c.loop-offer.places.items c.offer-item.result.who.0 c.index_mut.result.now (subst (λ n. c.offer-item.result.who.0 < n) (sym c.loop-offer.invariant.long) known) c.index_mut.ensures.value in
    omega (arith, few, now)

pub loop-offer-preserved : goal.loop-offer-preserved
loop-offer-preserved c =
    let at = c.loop-offer.offer-index in
    let x = c.offer-item.result in
    let known : x.who.0 < c.args.participants = c.requires _ (Member-at c.args.offers.now at x x c.loop-offer-test.true (sym c.offer-item.is)) in
    let stands : x.who.0 < length c.loop-offer.places.items = subst (λ n. x.who.0 < n) (sym c.loop-offer.invariant.long) known in
    record {
      size = c.loop-offer.invariant.size;
      long = length-set c.loop-offer.places.items x.who.0 (c.index_mut.result.now + 1) ∙ c.loop-offer.invariant.long;
      counted = λ told present. counted_more _ present c.args.offers.now at x c.loop-offer.places.items c.index_mut.result.now 1 c.loop-offer-test.true c.offer-item.is stands (c.loop-offer.invariant.counted told present) c.index_mut.ensures.value
          (place_taken-le told (offered_all present (take at c.args.offers.now)) x);
      few = few_more c.loop-offer.places.items at x.who.0 c.index_mut.result.now 1 c.loop-offer.invariant.few stands c.index_mut.ensures.value (omega arith);
    }
