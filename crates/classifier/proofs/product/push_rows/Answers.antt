use Rattle.std.proofs.Common.{◌+◌, drop, List, sym, ap, ◌∙◌, subst}
use Rattle.classifier.specs.Lines.{add_lines, row}
use Rattle.classifier.specs.Runs.{lines_in}
use Rattle.classifier.specs.Seen.{Agrees}
use Rattle.classifier.specs.declared.line.Line.{Line}
use Rattle.net_types.proofs.FindLemmas.{none_there}
use Rattle.classifier.proofs.RunLemmas.{row-append, row_apart, run_added, run_passed}
use Rattle.classifier.proofs.product.push_rows.Goals as goal
use Rattle.classifier.proofs.product.push_rows.Goals.{then-is_some+in_ok-push_row, else-is_some}

pub loop-run-preserved : goal.loop-run-preserved
loop-run-preserved c =
    let runs = c.args.runs.now in
    let i = c.loop-run.run-index in
    let run = c.run-item.result in
    let kept : List Line = c.loop-run.lines.items in
    let rest : List Line = row c.args.join c.args.x.now (lines_in (drop (i + 1) runs)) in
    record {
      whole = elim c.if-is_some.branch [
        | then-is_some+in_ok-push_row w ↦
            ap (λ v. add_lines v.items rest) w.lines-is ∙ ap (λ (lines : List Line). add_lines lines rest) w.in_ok-push_row.ensures.lines
            ∙ sym (run_added (row c.args.join c.args.x.now) (row-append c.args.join c.args.x.now) runs i run c.loop-run-test.true c.run-item.is kept)
            ∙ c.loop-run.invariant.whole
        | else-is_some w ↦
            ap (λ v. add_lines v.items rest) w.lines-is
            ∙ ap (add_lines kept) (sym (run_passed (row c.args.join c.args.x.now) (row-append c.args.join c.args.x.now) runs i run c.loop-run-test.true c.run-item.is (row_apart c.args.join c.args.x.now run.hull run.lines.now run.held (sym c.meet.ensures.value ∙ none_there c.meet.result (sym c.is_some.ensures ∙ w.if-is_some.false)))))
            ∙ c.loop-run.invariant.whole
      ];
      agrees = elim c.if-is_some.branch [
        | then-is_some+in_ok-push_row w ↦ subst (λ v. Agrees v.items c.if-is_some.seen) (sym w.lines-is) (subst (λ seen. Agrees w.push_row.new.lines.items seen) (sym w.seen-is) w.in_ok-push_row.ensures.agrees)
        | else-is_some w ↦ subst (λ v. Agrees v.items c.if-is_some.seen) (sym w.lines-is) (subst (λ seen. Agrees kept seen) (sym w.seen-is) c.loop-run.invariant.agrees)
      ];
    }
