use Rattle.std.proofs.Common.{◌≡◌, take}
use Rattle.route_server.specs.Rows.{settled_by}
use Rattle.route_server.proofs.Parts.{offers_by}
use Rattle.route_server.proofs.signature.offers_in.Given as goal

abbrev pub invariant-loop-place : goal.invariant-loop-place
invariant-loop-place l = l.offers ≡ offers_by (settled_by l.terms) l.to l.chosen l.prefix (take l.place l.row)
