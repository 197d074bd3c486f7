-- One more cell has the number of no results.
use Rattle.std.proofs.Common.{◌≡◌, ◌+◌, ◌++◌, ◌∷◌, [], Some, ap, sym, subst, take, ◌∙◌}
use Rattle.std.specs.List.{slice_get}
use Rattle.std.proofs.lemmas.List.{map-append, take_all, take_more}
use Rattle.classifier.specs.Lines.{line}
use Rattle.classifier.specs.Numbered.{AreNumbered}
use Rattle.block_build.proofs.FewLemmas.{numbered-more}
use Rattle.block_build.specs.ByCells.{dropping}
use Rattle.block_build.proofs.few.nothing.Goals as goal

pub loop-cell-preserved : goal.loop-cell-preserved
loop-cell-preserved c =
    let cells = c.args.cells.now in
    let i = c.loop-cell._cell-index in
    let cell = c._cell-item.result in
    let lists = c.put.new.self.lists.items in
    let front : dropping (take (i + 1) cells) ≡ dropping (take i cells) ++ line [] cell ∷ [] =
    ap dropping (take_more cells i cell c.loop-cell-test.true ∙ ap (λ x. take i cells ++ x ∷ []) (sym c._cell-item.is)) ∙ map-append (line []) (take i cells) (cell ∷ []) in
    let none : slice_get lists c.in_ok-number.number ≡ Some [] = c.in_ok-number.ensures.number ∙ ap Some c.new.ensures in
    subst (λ ys. AreNumbered lists ys c.push.new.self.items) (sym front)
    (numbered-more lists lists (dropping (take i cells)) c.loop-cell.numbers.items c.push.new.self.items (line [] cell) c.in_ok-number.number (λ n xs e. e) c.in_ok-push.ensures.items c.loop-cell.invariant none)

pub returns : goal.returns
returns c = subst (λ cells. AreNumbered c.put.new.self.lists.items (dropping cells) c.loop-cell.numbers.items) (take_all c.loop-cell._cell-index c.args.cells.now c.loop-cell-test.false) c.loop-cell.invariant
