-- What is left makes the whole.
use Rattle.std.proofs.Common.{◌≡◌, drop}
use Rattle.std.specs.List.{list_all}
use Rattle.std.specs.Prelude.{nat_lt}
use Rattle.net_types.specs.declared.route.Offer.{Offer}
use Rattle.table_cases.proofs.building.are_declared.Given as goal

abbrev pub invariant-loop-offer : goal.invariant-loop-offer
invariant-loop-offer l = list_all (λ (offer : Offer). nat_lt offer.exporter.0 l.count) (drop l.offer-index l.offers) ≡ list_all (λ (offer : Offer). nat_lt offer.exporter.0 l.count) l.offers
