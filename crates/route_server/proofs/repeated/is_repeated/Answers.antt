use Rattle.std.proofs.Common.{sym, ◌∙◌}
use Rattle.route_server.proofs.RepeatLaws.{rows_equal}
use Rattle.route_server.proofs.repeated.is_repeated.Goals as goal

pub returns-then-same_items : goal.returns-then-same_items
returns-then-same_items c =
    λ yes.
    let rows = rows_equal c.items.result.now c.items-then-same_items.result.now (sym c.same_items-then-same_items.ensures ∙ yes) in
    (rows_equal _ _ (sym c.same_items.ensures ∙ c.if-same_items.true), sym c.items.ensures ∙ rows ∙ c.items-then-same_items.ensures)
