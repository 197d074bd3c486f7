use Rattle.std.proofs.Common.{◌≡◌, take}
use Rattle.route_server.proofs.export.same_row.Given as goal

abbrev pub invariant-loop-held : goal.invariant-loop-held
invariant-loop-held l = l.next ≡ take l.held-index l.row
