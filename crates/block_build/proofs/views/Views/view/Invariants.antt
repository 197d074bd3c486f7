-- The participants in the offers so far are there.
use Rattle.std.proofs.Common.{◌≡◌, map, take}
use Rattle.net_types.specs.declared.route.Offer.{Offer}
use Rattle.block_build.specs.Lent.{inbound_at, outbound_at}
use Rattle.block_build.proofs.views.Views.view.Given as goal

abbrev pub invariant-loop-offer : goal.invariant-loop-offer
invariant-loop-offer l = (l.view.outbound ≡ outbound_at l.self l.part.sender) × (l.view.inbound ≡ map (λ (o : Offer). (o.exporter, inbound_at l.self o.exporter)) (take l.offer-index l.part.offers))
