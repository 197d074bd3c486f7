use Rattle.std.proofs.Common.{ap}
use Rattle.route_server.proofs.ServedLaws.{committed}
use Rattle.route_server.proofs.server.RouteServer.set.Goals as goal

pub returns-in-Some-clause-routes : goal.returns-in-Some-clause-routes
returns-in-Some-clause-routes c m reaches = committed c.self.inside.rows.map c.put_rows.new.rows.map c.args.changes.items c.args.self.now.routes m (ap (λ s. s.routes) c.self.view_is) c.put_rows.ensures.routes reaches

pub returns-in_default-clause-routes : goal.returns-in_default-clause-routes
returns-in_default-clause-routes c m reaches = committed c.self.inside.rows.map c.put_rows.new.rows.map c.args.changes.items c.args.self.now.routes m (ap (λ s. s.routes) c.self.view_is) c.put_rows.ensures.routes reaches
