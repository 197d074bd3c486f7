use Rattle.std.proofs.Common.{◌≡◌, ◌<◌, length, ap, subst, ◌∙◌, sym}
use Rattle.fast_path.specs.Offers.{all_taken, place_taken}
use Rattle.fast_path.proofs.OffersCounted.{counted_room, room_more}
use Rattle.fast_path.proofs.offering.reserve_all.Goals as goal

pub loop-number-preserved : goal.loop-number-preserved
loop-number-preserved c =
    let before = c.args.adverts.now in
    let all : length c.participants.result.now ≡ length before.told = ap length c.participants.ensures.all ∙ c.requires.declared in
    let in_places : c.loop-number.number < length c.in_ok-places.places.items = subst (λ n. c.loop-number.number < n) (all ∙ sym c.in_ok-places.ensures.length) c.loop-number-test.true in
    record {
      told = c.reserve.ensures.told ∙ c.loop-number.invariant.told;
      present = c.reserve.ensures.present ∙ c.loop-number.invariant.present;
      places = counted_room (all_taken (place_taken before.told) before.present c.args.offers.now) c.in_ok-places.places.items c.loop-number.adverts.places c.reserve.new.self.places c.loop-number.number c.index.result.now
          c.in_ok-places.ensures.places in_places c.index.ensures c.loop-number.invariant.places c.reserve.ensures.places_kept c.in_ok-reserve.ensures.places;
      tags = room_more (λ n. c.above_all-tags.result) c.loop-number.adverts.tags c.reserve.new.self.tags c.loop-number.number c.loop-number.invariant.tags c.reserve.ensures.tags_kept c.in_ok-reserve.ensures.tags;
    }
