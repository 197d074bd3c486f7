use Rattle.std.proofs.Common.{List, Option, None, ℕ, [], ◌∷◌, ◌++◌, sym, ap, ◌∙◌}
use Rattle.cells.proofs.MarkLemmas.{nothing-more}
use Rattle.cells.proofs.firsts.nothing_of.Goals as goal

pub loop-cell-preserved : goal.loop-cell-preserved
loop-cell-preserved c =
    c.in_ok-push.ensures.items ∙ ap (λ (o : List (Option ℕ)). o ++ None ∷ []) c.loop-cell.invariant
    ∙ sym (nothing-more c.args.cells.now c.loop-cell._cell-index c.loop-cell-test.true)
