-- One more rule is that of the next cell.
use Rattle.std.proofs.Common.{◌≡◌, ◌<◌, ◌++◌, ◌∷◌, [], List, Some, ap, get_or, length, refl, subst, sym, ◌∙◌}
use Rattle.std.specs.List.{slice_get}
use Rattle.std.proofs.lemmas.List.{take_more}
use Rattle.std.proofs.lemmas.Option.{slice_get-get_or, slice_get_read}
use Rattle.classifier.specs.Items.{Item}
use Rattle.classifier.specs.Lines.{line}
use Rattle.classifier.specs.declared.line.Line.{Line}
use Rattle.block_build.proofs.FewLemmas.{cube-of, cubes-length}
use Rattle.net_types.specs.declared.cube.Cube.{Cube}
use Rattle.block_build.proofs.few.lines_of.Goals as goal

pub loop-i-preserved : goal.loop-i-preserved
loop-i-preserved c = λ zs same are.
    let i = c.loop-i.i in
    let cells = c.args.cells.now in
    let cube = c.index-cells-i.result in
    let none : Line = line [] cube in
    let z = get_or zs i none in
    let lt : i < length zs = subst (λ n. i < n) (sym (cubes-length zs cells same)) c.loop-i-test.true in
    let at : slice_get zs i ≡ Some z = slice_get-get_or zs i none lt in
    let its : z.cube ≡ cube = cube-of zs cells i z cube same at (slice_get_read cells (length cells) i cube refl c.loop-i-test.true c.index-cells-i.is) in
    let gives : c.in_ok-results_at.field-0 ≡ z.results = c.in_ok-results_at.ensures zs z are at in
    c.in_ok-push.ensures.items
    ∙ ap (λ (items : List Item). c.loop-i.lines.items ++ line items cube ∷ []) gives
    ∙ ap (λ (a : Cube). c.loop-i.lines.items ++ line z.results a ∷ []) (sym its)
    ∙ ap (λ (front : List Line). front ++ z ∷ []) (c.loop-i.invariant zs same are)
    ∙ sym (take_more zs i none lt)
