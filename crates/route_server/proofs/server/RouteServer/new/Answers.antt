use Rattle.route_server.proofs.ListedLaws.{none_listed}
use Rattle.route_server.proofs.ServedLaws.{no_rows, no_routes}
use Rattle.route_server.proofs.server.RouteServer.new.Goals as goal

pub invariant_of-result : goal.invariant_of-result
invariant_of-result c = (no_rows c.new-rows.result.map c.new-rows.ensures, none_listed c.new-rows.result.map c.new.result c.new-rows.ensures)

pub returns-clause-routes : goal.returns-clause-routes
returns-clause-routes c = no_routes c.new-rows.result.map c.new-rows.ensures
