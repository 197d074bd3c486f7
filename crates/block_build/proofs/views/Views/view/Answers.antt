-- Each participant in the offers was pushed, and is in the view in the end.
use Rattle.std.proofs.Common.{◌≤◌, ◌<◌, false, List, get_or, length, refl, sym, subst}
use Rattle.net_types.specs.declared.route.Offer.{Offer}
use Rattle.block_build.proofs.ViewLemmas.{view_has_all, view_receives}
use Rattle.block_build.specs.Lent.{inbound_at}
use Rattle.block_build.proofs.views.Views.view.Goals as goal
use Rattle.net_types.proofs.MemberLemmas.{Member-at}

pub both-requires-in-loop-offer : goal.both-requires-in-loop-offer
both-requires-in-loop-offer c =
    let none : Offer = record { exporter = record { 0 = 0 }; port = record { 0 = 0 }; hole = false } in
    subst (λ (offers : List Offer). (get_or offers c.loop-offer.offer-index none).exporter.0 < length c.args.self.now) (sym c.items-offer-items.ensures)
    (c.requires.exporters _ (Member-at c.args.part.now.offers c.loop-offer.offer-index none _ (subst (λ (offers : List Offer). c.loop-offer.offer-index < length offers) c.items-offer-items.ensures c.loop-offer-test.true) refl))

pub returns-clause-has_all : goal.returns-clause-has_all
returns-clause-has_all c =
    view_has_all (inbound_at c.args.self.now) c.loop-offer.view c.args.part.now.offers c.loop-offer.offer-index
    (subst (λ (offers : List Offer). length offers ≤ c.loop-offer.offer-index) c.items-offer-items.ensures c.loop-offer-test.false) c.loop-offer.invariant.1

pub returns-clause-receivers : goal.returns-clause-receivers
returns-clause-receivers c =
    view_receives (inbound_at c.args.self.now) c.loop-offer.view c.args.part.now.offers c.loop-offer.offer-index
    (subst (λ (offers : List Offer). length offers ≤ c.loop-offer.offer-index) c.items-offer-items.ensures c.loop-offer-test.false) c.loop-offer.invariant.1
