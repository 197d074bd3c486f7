use Rattle.std.proofs.Common.{ap}
use Rattle.route_server.proofs.DownLaws.{keys_are_all}
use Rattle.route_server.proofs.server.RouteServer.prefixes.Goals as goal

pub returns : goal.returns
returns c = keys_are_all c.self.inside.rows.map c.in_ok-prefixes.prefixes.items c.args.self.now.routes c.in_ok-prefixes.ensures (ap (λ s. s.routes) c.self.view_is)
