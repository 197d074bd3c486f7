use Rattle.std.proofs.Common.{◌+◌, arith, drop, ap, sym, ◌∙◌, refl}
use Rattle.classifier.specs.Lines.{add_lines, product, row}
use Rattle.classifier.specs.Runs.{lines_in}
use Rattle.classifier.proofs.AddLemmas.{add_lines_more}
use Rattle.classifier.proofs.FrontLemmas.{front_more}
use Rattle.classifier.proofs.product.product_within.Goals as goal

pub returns-then-len-limit : goal.returns-then-len-limit
returns-then-len-limit c = record {
  taken = c.loop-x.x-index + 1;
  is =
      c.in_ok-push_rows.ensures.lines
      ∙ ap (λ all. add_lines c.loop-x.lines.items (row c.args.join c.x-item.result all)) (ap lines_in c.deref.ensures.value ∙ c.in_ok-runs.ensures)
      ∙ ap (λ kept. add_lines kept (row c.args.join c.x-item.result c.args.ys.now)) c.loop-x.invariant.front
      ∙ front_more c.args.join c.args.xs.now c.args.ys.now c.loop-x.x-index c.x-item.result c.loop-x-test.true c.x-item.is;
  whole = λ within. absurd (omega (arith, c.len.ensures, c.push_rows.new.lines.ok, c.if-len-limit.true, within));
}

pub loop-x-preserved : goal.loop-x-preserved
loop-x-preserved c =
    let join = c.args.join in
    let ys = c.args.ys.now in
    let added =
    c.in_ok-push_rows.ensures.lines
    ∙ ap (λ all. add_lines c.loop-x.lines.items (row c.args.join c.x-item.result all)) (ap lines_in c.deref.ensures.value ∙ c.in_ok-runs.ensures) in
    record {
      whole =
          ap (λ kept. add_lines kept (product c.args.join (drop (c.loop-x.x-index + 1) c.args.xs.now) c.args.ys.now)) added
          ∙ sym (add_lines_more (λ xs. product c.args.join xs c.args.ys.now) (λ x. row c.args.join x c.args.ys.now) (λ _ _. refl) c.loop-x.lines.items c.args.xs.now c.loop-x.x-index c.x-item.result c.loop-x-test.true c.x-item.is)
          ∙ c.loop-x.invariant.whole;
      front =
          added
          ∙ ap (λ kept. add_lines kept (row c.args.join c.x-item.result c.args.ys.now)) c.loop-x.invariant.front
          ∙ front_more c.args.join c.args.xs.now c.args.ys.now c.loop-x.x-index c.x-item.result c.loop-x-test.true c.x-item.is;
      agrees = c.in_ok-push_rows.ensures.agrees;
    }
