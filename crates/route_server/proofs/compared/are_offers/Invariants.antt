use Rattle.std.proofs.Common.{◌≡◌, ◌≤◌, drop}
use Rattle.std.specs.Cmp.Lexicographic.{pointwise}
use Rattle.net_types.specs.Attributes.{same_offer}
use Rattle.route_server.specs.Rows.{settled_by}
use Rattle.route_server.proofs.Parts.{offers_by}
use Rattle.route_server.proofs.compared.are_offers.Given as goal

abbrev pub invariant-loop-place : goal.invariant-loop-place
invariant-loop-place l = record {
  fewer : l.next ≤ l.place;
  left : pointwise same_offer (drop l.next l.offers) (offers_by (settled_by l.terms) l.to l.chosen l.prefix (drop l.place l.row)) ≡ pointwise same_offer l.offers (offers_by (settled_by l.terms) l.to l.chosen l.prefix l.row);
}
