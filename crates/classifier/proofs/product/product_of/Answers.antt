use Rattle.std.proofs.Common.{refl, ap, sym, ◌∙◌, ◌+◌, drop}
use Rattle.classifier.specs.Lines.{add_lines, product, row}
use Rattle.classifier.specs.Runs.{lines_in}
use Rattle.classifier.proofs.AddLemmas.{add_lines_more}
use Rattle.classifier.proofs.product.product_of.Goals as goal

pub loop-x-preserved : goal.loop-x-preserved
loop-x-preserved c =
    let join = c.args.join in
    let ys = c.args.ys.now in
    record {
      whole =
          ap (λ kept. add_lines kept (product join (drop (c.loop-x.x-index + 1) c.args.xs.now) ys)) c.in_ok-push_rows.ensures.lines
          ∙ ap (λ all. add_lines (add_lines c.loop-x.lines.items (row join c.x-item.result all)) (product join (drop (c.loop-x.x-index + 1) c.args.xs.now) ys)) (ap lines_in c.deref.ensures.value ∙ c.in_ok-runs.ensures)
          ∙ sym (add_lines_more (λ xs. product join xs ys) (λ x. row join x ys) (λ _ _. refl) c.loop-x.lines.items c.args.xs.now c.loop-x.x-index c.x-item.result c.loop-x-test.true c.x-item.is)
          ∙ c.loop-x.invariant.whole;
      agrees = c.in_ok-push_rows.ensures.agrees;
    }
