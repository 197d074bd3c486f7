use Rattle.std.proofs.Common.{refl, ap, sym, ◌∙◌, ◌+◌, drop, [], ◌∷◌}
use Rattle.classifier.specs.Lines.{add_lines, composed, block, line}
use Rattle.classifier.specs.Runs.{lines_in}
use Rattle.classifier.proofs.AddLemmas.{add_lines_more}
use Rattle.classifier.proofs.composition.composition_of.Goals as goal

pub loop-x-preserved : goal.loop-x-preserved
loop-x-preserved c =
    let ys = c.args.ys.now in
    record {
      whole =
          ap (λ kept. add_lines kept (composed (drop (c.loop-x.x-index + 1) c.args.xs.now) ys)) c.in_ok-push_block.ensures.lines
          ∙ ap (λ all. add_lines (add_lines c.loop-x.lines.items (block (line [] c.x-item.result.cube ∷ []) c.x-item.result.results all)) (composed (drop (c.loop-x.x-index + 1) c.args.xs.now) ys)) (ap lines_in c.deref.ensures.value ∙ c.in_ok-runs.ensures)
          ∙ sym (add_lines_more (λ xs. composed xs ys) (λ x. block (line [] x.cube ∷ []) x.results ys) (λ _ _. refl) c.loop-x.lines.items c.args.xs.now c.loop-x.x-index c.x-item.result c.loop-x-test.true c.x-item.is)
          ∙ c.loop-x.invariant.whole;
      agrees = c.in_ok-push_block.ensures.agrees;
    }
