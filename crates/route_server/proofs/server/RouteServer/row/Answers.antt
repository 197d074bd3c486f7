use Rattle.std.proofs.Common.{sym, ap, ◌∙◌}
use Rattle.std.specs.Option.{option_and_then}
use Rattle.std.specs.FinMap.{get}
use Rattle.route_server.specs.Rows.{look}
use Rattle.route_server.proofs.ServedLaws.{get-routes_of, rows_rise}
use Rattle.route_server.proofs.server.RouteServer.row.Goals as goal

pub returns-in-Some-clause-routes : goal.returns-in-Some-clause-routes
returns-in-Some-clause-routes c from =
    ap (λ s. get s.routes (record { from = from; prefix = c.args.prefix })) (sym c.self.view_is)
    ∙ get-routes_of c.self.inside.rows.map (record { from = from; prefix = c.args.prefix })
    ∙ ap (option_and_then (λ row. look row from.0)) (sym c.in-Some.ensures) ∙ ap (λ row. look row from.0) (sym c.items.ensures)

pub returns-in-Some-clause-rising : goal.returns-in-Some-clause-rising
returns-in-Some-clause-rising c = rw c.items.ensures (rows_rise c.self.inside.rows.map c.args.prefix _ c.self.invariant.0 c.in-Some.ensures)

pub returns-in-None-clause-routes : goal.returns-in-None-clause-routes
returns-in-None-clause-routes c from =
    ap (λ s. get s.routes (record { from = from; prefix = c.args.prefix })) (sym c.self.view_is)
    ∙ get-routes_of c.self.inside.rows.map (record { from = from; prefix = c.args.prefix })
    ∙ ap (option_and_then (λ row. look row from.0)) (sym c.in-None.ensures)
