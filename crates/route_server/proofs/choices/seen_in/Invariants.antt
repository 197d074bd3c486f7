use Rattle.std.proofs.Common.{◌≡◌, take}
use Rattle.route_server.specs.Choices.{seen_by}
use Rattle.route_server.specs.Rows.{settled_by}
use Rattle.route_server.proofs.choices.seen_in.Given as goal

abbrev pub invariant-loop-held : goal.invariant-loop-held
invariant-loop-held l = l.seen.items ≡ seen_by (settled_by l.terms) (take l.held-index l.row)
