use Rattle.std.proofs.Common.{◌||◌, ◌+◌, drop, sym, ap, ◌∙◌}
use Rattle.classifier.specs.Lines.{is_within_some}
use Rattle.classifier.specs.Runs.{lines_in}
use Rattle.classifier.proofs.RunLemmas.{inside_runs}
use Rattle.classifier.proofs.tight.is_inside_runs.Goals as goal

pub returns-then-is_inside_run : goal.returns-then-is_inside_run
returns-then-is_inside_run c =
    let runs = c.args.runs.now in
    let i = c.loop-run.run-index in
    let next = c.args.next.now in
    ap (λ t. t || is_within_some (lines_in (drop (i + 1) runs)) next) (sym c.if-is_inside_run.true ∙ c.is_inside_run.ensures)
    ∙ sym (inside_runs runs i c.run-item.result next c.loop-run-test.true c.run-item.is)
    ∙ c.loop-run.invariant

pub loop-run-preserved : goal.loop-run-preserved
loop-run-preserved c =
    let runs = c.args.runs.now in
    let i = c.loop-run.run-index in
    let next = c.args.next.now in
    ap (λ t. t || is_within_some (lines_in (drop (i + 1) runs)) next) (sym c.if-is_inside_run.false ∙ c.is_inside_run.ensures)
    ∙ sym (inside_runs runs i c.run-item.result next c.loop-run-test.true c.run-item.is)
    ∙ c.loop-run.invariant
