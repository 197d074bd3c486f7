use Rattle.std.proofs.Common.{◌≡◌, drop}
use Rattle.std.specs.Prelude.{is_some}
use Rattle.route_server.specs.Rows.{look}
use Rattle.route_server.proofs.down.has.Given as goal

abbrev pub invariant-loop-held : goal.invariant-loop-held
invariant-loop-held l = is_some (look (drop l.held-index l.row) l.from.0) ≡ is_some (look l.row l.from.0)
