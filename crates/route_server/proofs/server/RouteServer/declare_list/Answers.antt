use Rattle.route_server.proofs.server.RouteServer.declare_list.Goals as goal

pub invariant_of-self : goal.invariant_of-self
invariant_of-self c = (c.self.invariant.0, λ k there. c.declare.ensures k.from.0 k.prefix (c.self.invariant.1 k there))
