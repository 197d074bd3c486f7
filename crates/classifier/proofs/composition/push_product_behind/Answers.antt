use Rattle.std.proofs.Common.{refl, ap, sym, ◌∙◌, ◌+◌, drop}
use Rattle.classifier.specs.declared.join.Join.TheVariants.{Union}
use Rattle.classifier.specs.Lines.{add_lines, product, row, pulled}
use Rattle.classifier.specs.Runs.{lines_in}
use Rattle.classifier.proofs.AddLemmas.{add_lines_more}
use Rattle.classifier.proofs.composition.push_product_behind.Goals as goal

pub loop-x-preserved : goal.loop-x-preserved
loop-x-preserved c =
    let ys = pulled c.args.first (lines_in c.args.runs.now) in
    record {
      whole =
          ap (λ kept. add_lines kept (product Union (drop (c.loop-x.x-index + 1) c.args.xs.now) ys)) c.in_ok-push_rows_behind.ensures.lines
          ∙ sym (add_lines_more (λ xs. product Union xs ys) (λ x. row Union x ys) (λ _ _. refl) c.loop-x.lines.items c.args.xs.now c.loop-x.x-index c.x-item.result c.loop-x-test.true c.x-item.is)
          ∙ c.loop-x.invariant.whole;
      agrees = c.in_ok-push_rows_behind.ensures.agrees;
    }
