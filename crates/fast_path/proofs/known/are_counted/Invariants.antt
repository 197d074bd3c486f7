use Rattle.std.proofs.Common.{◌≡◌, ◌≤◌, drop, filter, length}
use Rattle.std.specs.Cmp.Lexicographic.{pointwise}
use Rattle.net_types.specs.Attributes.{same_offer}
use Rattle.net_types.specs.Signatures.{counts}
use Rattle.net_types.specs.declared.route.Offer.{Offer}
use Rattle.fast_path.proofs.known.are_counted.Given as goal

-- what is left to compare decides
abbrev pub invariant-loop-offer : goal.invariant-loop-offer
invariant-loop-offer l = record {
  left : pointwise same_offer (filter (λ (o : Offer). counts l.pids l.best o.exporter) (drop l.offer-index l.kept)) (drop l.at l.offers) ≡ pointwise same_offer (filter (λ (o : Offer). counts l.pids l.best o.exporter) l.kept) l.offers;
  within : l.at ≤ length l.offers;
}
