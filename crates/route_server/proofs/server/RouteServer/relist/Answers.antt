use Rattle.std.proofs.Common.{ap}
use Rattle.route_server.proofs.ListedLaws.{relisted}
use Rattle.route_server.proofs.server.RouteServer.relist.Goals as goal

pub invariant_of-self : goal.invariant_of-self
invariant_of-self c =
    (c.self.invariant.0, relisted c.self.inside.rows.map c.self.inside.announced c.replace.new.self c.args.self.now.routes c.args.from c.args.prefixes.items (ap (λ s. s.routes) c.self.view_is) c.self.invariant.1 c.requires c.replace.ensures)
