use Rattle.std.proofs.Common.{ap, ◌∙◌, refl, sym, length}
use Rattle.std.specs.Prelude.{Some, None}
use Rattle.std.specs.FinMap.{get}
use Rattle.std.proofs.lemmas.Bool.{eqb-true}
use Rattle.route_server.proofs.ServedLaws.{rows_update, route_update, get-put, get-taken, look-empty}
use Rattle.route_server.proofs.server.swap_row.Goals as goal

pub returns-then-is_empty-clause-rows : goal.returns-then-is_empty-clause-rows
returns-then-is_empty-clause-rows c = rows_update c.args.rows.now.map c.remove.new.self.map c.args.change.prefix None (λ q. ap (λ m. get m q) c.remove.ensures.map ∙ get-taken c.args.rows.now.map c.args.change.prefix q) c.requires.rows tt

pub returns-then-is_empty-clause-routes : goal.returns-then-is_empty-clause-routes
returns-then-is_empty-clause-routes c = route_update c.args.rows.now.map c.remove.new.self.map c.args.change None (λ q. ap (λ m. get m q) c.remove.ensures.map ∙ get-taken c.args.rows.now.map c.args.change.prefix q)
    (λ n. look-empty c.args.change.row n (eqb-true (length c.args.change.row) 0 (sym c.is_empty.ensures ∙ c.if-is_empty.true)))

pub returns-else-is_empty-clause-rows : goal.returns-else-is_empty-clause-rows
returns-else-is_empty-clause-rows c = rows_update c.args.rows.now.map c.put.new.self.map c.args.change.prefix (Some c.args.change.row) (λ q. ap (λ m. get m q) c.put.ensures.map ∙ get-put c.args.rows.now.map c.args.change.prefix c.args.change.row q) c.requires.rows c.args.change.rising

pub returns-else-is_empty-clause-routes : goal.returns-else-is_empty-clause-routes
returns-else-is_empty-clause-routes c = route_update c.args.rows.now.map c.put.new.self.map c.args.change (Some c.args.change.row) (λ q. ap (λ m. get m q) c.put.ensures.map ∙ get-put c.args.rows.now.map c.args.change.prefix c.args.change.row q) (λ n. refl)
