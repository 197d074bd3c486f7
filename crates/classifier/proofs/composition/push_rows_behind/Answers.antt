use Rattle.std.proofs.Common.{◌+◌, drop, List, sym, ap, ◌∙◌, subst}
use Rattle.classifier.specs.Lines.{add_lines}
use Rattle.classifier.specs.Runs.{lines_in}
use Rattle.classifier.specs.Seen.{Agrees}
use Rattle.classifier.specs.declared.line.Line.{Line}
use Rattle.net_types.proofs.FindLemmas.{none_there}
use Rattle.classifier.proofs.RunLemmas.{row_behind, row_behind-append, row_behind_apart, run_added, run_passed}
use Rattle.classifier.proofs.composition.push_rows_behind.Goals as goal
use Rattle.classifier.proofs.composition.push_rows_behind.Goals.{then-is_some+in_ok-push_row_behind, else-is_some}

pub loop-run-preserved : goal.loop-run-preserved
loop-run-preserved c =
    let runs = c.args.runs.now in
    let i = c.loop-run.run-index in
    let run = c.run-item.result in
    let kept : List Line = c.loop-run.lines.items in
    let rest : List Line = row_behind c.args.first c.args.x.now (lines_in (drop (i + 1) runs)) in
    record {
      whole = elim c.if-is_some.branch [
        | then-is_some+in_ok-push_row_behind w ↦
            ap (λ v. add_lines v.items rest) w.lines-is ∙ ap (λ (lines : List Line). add_lines lines rest) w.in_ok-push_row_behind.ensures.lines
            ∙ sym (run_added (row_behind c.args.first c.args.x.now) (row_behind-append c.args.first c.args.x.now) runs i run c.loop-run-test.true c.run-item.is kept)
            ∙ c.loop-run.invariant.whole
        | else-is_some w ↦
            ap (λ v. add_lines v.items rest) w.lines-is
            ∙ ap (add_lines kept) (sym (run_passed (row_behind c.args.first c.args.x.now) (row_behind-append c.args.first c.args.x.now) runs i run c.loop-run-test.true c.run-item.is (row_behind_apart c.args.first c.args.x.now run.hull run.lines.now run.held (sym c.meet_behind.ensures ∙ none_there c.meet_behind.result (sym c.is_some.ensures ∙ w.if-is_some.false)))))
            ∙ c.loop-run.invariant.whole
      ];
      agrees = elim c.if-is_some.branch [
        | then-is_some+in_ok-push_row_behind w ↦ subst (λ v. Agrees v.items c.if-is_some.seen) (sym w.lines-is) (subst (λ seen. Agrees w.push_row_behind.new.lines.items seen) (sym w.seen-is) w.in_ok-push_row_behind.ensures.agrees)
        | else-is_some w ↦ subst (λ v. Agrees v.items c.if-is_some.seen) (sym w.lines-is) (subst (λ seen. Agrees kept seen) (sym w.seen-is) c.loop-run.invariant.agrees)
      ];
    }
