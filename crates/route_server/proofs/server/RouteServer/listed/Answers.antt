use Rattle.std.proofs.Common.{ap, ◌∙◌}
use Rattle.net_types.specs.Keys.{prefix_cmp}
use Rattle.net_types.specs.Maps.{ordered}
use Rattle.route_server.proofs.ListedLaws.{listed_among, all_among}
use Rattle.route_server.proofs.server.RouteServer.listed.Goals as goal

pub returns-in_ok-own-in-Some : goal.returns-in_ok-own-in-Some
returns-in_ok-own-in-Some c =
    listed_among c.self.inside.rows.map c.self.inside.announced c.args.self.now.routes c.args.from c.in-Some.prefixes.now c.ascending.result.items (ap (λ s. s.routes) c.self.view_is) c.self.invariant.1 c.in-Some.ensures
    (c.ascending.ensures ∙ ap (ordered prefix_cmp) c.in_ok-own-in-Some.ensures.items)

pub returns-in_ok-all-in-None : goal.returns-in_ok-all-in-None
returns-in_ok-all-in-None c = all_among c.args.self.now.routes c.args.from c.in_ok-all-in-None.all.items c.in_ok-all-in-None.ensures
