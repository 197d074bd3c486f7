use Rattle.std.proofs.Common.{◌≡◌, take}
use Rattle.route_server.specs.Choices.{offers_by_row}
use Rattle.route_server.specs.Rows.{settled_by}
use Rattle.route_server.proofs.signature.all_offers.Given as goal

abbrev pub invariant-loop-held : goal.invariant-loop-held
invariant-loop-held l = l.offers.items ≡ offers_by_row (settled_by l.terms) (take l.held-index l.row)
