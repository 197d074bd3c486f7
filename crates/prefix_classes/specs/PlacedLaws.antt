-- The order of signatures is a total one.
use Rattle.std.specs.Cmp.{IsTotalOrder, on_total, then_total, nat_cmp_total, bool_cmp_total}
use Rattle.std.specs.Cmp.Lexicographic.{lists_total}
use Rattle.net_types.specs.declared.route.Offer.{Offer}
use Rattle.net_types.specs.declared.route.Part.{Part}
use Rattle.prefix_classes.specs.Placed.{offer_cmp, part_cmp, sig_cmp}

pub offers_total : IsTotalOrder offer_cmp
offers_total = then_total (on_total (λ (o : Offer). o.exporter.0) nat_cmp_total) (then_total (on_total (λ (o : Offer). o.port.0) nat_cmp_total) (on_total (λ (o : Offer). o.hole) bool_cmp_total))

pub parts_total : IsTotalOrder part_cmp
parts_total = then_total (on_total (λ (q : Part). q.sender.0) nat_cmp_total) (then_total (on_total (λ (q : Part). q.best.0) nat_cmp_total) (on_total (λ (q : Part). q.offers) (lists_total offers_total)))

pub sigs_total : IsTotalOrder sig_cmp
sigs_total = lists_total parts_total
