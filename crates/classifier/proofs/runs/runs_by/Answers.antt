use Rattle.std.proofs.Common.{List, ◌++◌, append_assoc, sym, ap, ◌∙◌}
use Rattle.classifier.specs.Runs.{lines_in}
use Rattle.classifier.specs.declared.line.Line.{Line}
use Rattle.classifier.specs.declared.run.Run.{Run}
use Rattle.classifier.proofs.RunLemmas.{lines_in-push}
use Rattle.classifier.proofs.runs.runs_by.Goals as goal

pub loop-left-preserved : goal.loop-left-preserved
loop-left-preserved c =
    let kept : List Run = c.loop-left.runs.items in
    let front : List Line = c.split_at.result.0.now in
    let back : List Line = c.split_at.result.1.now in
    ap (λ runs. lines_in runs ++ back) c.in_ok-push.ensures.items
    ∙ ap (λ xs. xs ++ back) (lines_in-push kept c.new.result ∙ ap (λ xs. lines_in kept ++ xs) c.new.ensures)
    ∙ append_assoc (lines_in kept) front back
    ∙ ap (λ xs. lines_in kept ++ xs) (sym c.split_at.ensures.by_index.0)
    ∙ c.loop-left.invariant
