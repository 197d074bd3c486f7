use Rattle.std.proofs.Common.{length, ap, subst, ◌∙◌, sym, inl, inr, refl}
use Rattle.std.specs.Vec.Iter.{into_iter_items}
use Rattle.fast_path.specs.Offers.{AreTo, HaveRoom, offered_all}
use Rattle.fast_path.proofs.OffersCounted.{place_first, room_left, tag_first}
use Rattle.fast_path.proofs.offering.offer_all.Goals as goal

pub loop-offer-init : goal.loop-offer-init
loop-offer-init c = record {
  told = refl;
  rest = ap (offered_all c.args.adverts.now.present) c.into_iter-offer-iterator.ensures.into_iter_gives.0;
  known = subst (AreTo (length c.args.adverts.now.told)) (sym c.into_iter-offer-iterator.ensures.into_iter_gives.0) c.requires.known;
  room = subst (HaveRoom c.args.adverts.now) (sym c.into_iter-offer-iterator.ensures.into_iter_gives.0) c.requires.room;
}

pub offer-requires-clause-declared : goal.offer-requires-clause-declared
offer-requires-clause-declared c = subst (AreTo (length c.loop-offer.adverts.told)) c.in-Some.ensures.steps.0 c.loop-offer.invariant.known c.in-Some.offer (inl refl)

pub offer-requires-clause-place : goal.offer-requires-clause-place
offer-requires-clause-place c =
    place_first c.loop-offer.adverts c.in-Some.offer (into_iter_items c.next.new.self) (subst (HaveRoom c.loop-offer.adverts) c.in-Some.ensures.steps.0 c.loop-offer.invariant.room)
    (subst (AreTo (length c.loop-offer.adverts.told)) c.in-Some.ensures.steps.0 c.loop-offer.invariant.known c.in-Some.offer (inl refl))

pub offer-requires-clause-tag : goal.offer-requires-clause-tag
offer-requires-clause-tag c =
    tag_first c.loop-offer.adverts c.in-Some.offer (into_iter_items c.next.new.self) (subst (HaveRoom c.loop-offer.adverts) c.in-Some.ensures.steps.0 c.loop-offer.invariant.room)
    (subst (AreTo (length c.loop-offer.adverts.told)) c.in-Some.ensures.steps.0 c.loop-offer.invariant.known c.in-Some.offer (inl refl))

pub loop-offer-preserved : goal.loop-offer-preserved
loop-offer-preserved c =
    let later = into_iter_items c.next.new.self in
    let known = subst (AreTo (length c.loop-offer.adverts.told)) c.in-Some.ensures.steps.0 c.loop-offer.invariant.known in
    record {
      told = c.offer.ensures.told ∙ c.loop-offer.invariant.told;
      rest = ap (λ all. offered_all all later) c.offer.ensures.present ∙ ap (offered_all c.loop-offer.adverts.present) (sym c.in-Some.ensures.steps.0) ∙ c.loop-offer.invariant.rest;
      known = subst (λ all. AreTo (length all) later) (sym c.offer.ensures.told) (λ o m. known o (inr m));
      room = room_left c.loop-offer.adverts c.in-Some.offer later (subst (HaveRoom c.loop-offer.adverts) c.in-Some.ensures.steps.0 c.loop-offer.invariant.room) c.offer.new.self
          c.offer.ensures.told c.offer.ensures.present c.offer.ensures.places c.offer.ensures.other_places c.offer.ensures.tags;
    }
