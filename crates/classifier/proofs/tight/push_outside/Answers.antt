use Rattle.std.proofs.Common.{◌≡◌, true, false, ◌||◌, cond, List, [], ◌∷◌, ◌++◌, sym, ap, ◌∙◌}
use Rattle.std.proofs.Math.Bool.{or-true}
use Rattle.classifier.specs.Lines.{is_within_some, tightened}
use Rattle.classifier.specs.Runs.{lines_in}
use Rattle.classifier.specs.declared.line.Line.{Line}
use Rattle.classifier.proofs.RunLemmas.{tightened-push}
use Rattle.classifier.proofs.tight.push_outside.Goals as goal
use Rattle.classifier.proofs.tight.push_outside.Goals.{else-not-is_inside_runs-via-then-not-is_inside_runs+else-not-is_inside, else-not-is_inside_runs-via-else-not-is_inside_runs}

pub returns-in_ok-push : goal.returns-in_ok-push
returns-in_ok-push c =
    let front : List Line = lines_in c.args.runs.now in
    let run : List Line = c.args.run.now in
    let y : Line = c.args.next.now in
    let before : List Line = tightened [] (front ++ run) in
    let outside : (is_within_some front y || is_within_some run y) ≡ false =
    ap (λ t. t || is_within_some run y) (sym c.is_inside_runs.ensures ∙ c.if-not-is_inside_runs.true) ∙ sym c.is_inside.ensures ∙ c.if-not-is_inside.true in
    c.in_ok-push.ensures.items ∙ ap (λ (x : Line). c.args.lines.now.items ++ x ∷ []) c.in_ok-copy.ensures ∙ ap (λ (xs : List Line). xs ++ y ∷ []) c.requires
    ∙ ap (λ t. cond t before (before ++ y ∷ [])) (sym outside) ∙ sym (tightened-push front run y)

pub returns-else-not-is_inside_runs : goal.returns-else-not-is_inside_runs
returns-else-not-is_inside_runs c =
    let front : List Line = lines_in c.args.runs.now in
    let run : List Line = c.args.run.now in
    let y : Line = c.args.next.now in
    let before : List Line = tightened [] (front ++ run) in
    let inside : (is_within_some front y || is_within_some run y) ≡ true = elim c.else-not-is_inside_runs.branch [
      | else-not-is_inside_runs-via-then-not-is_inside_runs+else-not-is_inside w ↦
          ap (λ t. is_within_some front y || t) (sym w.is_inside.ensures ∙ w.if-not-is_inside.false) ∙ or-true (is_within_some front y)
      | else-not-is_inside_runs-via-else-not-is_inside_runs w ↦ ap (λ t. t || is_within_some run y) (sym c.is_inside_runs.ensures ∙ w.if-not-is_inside_runs.false)
    ] in
    c.requires ∙ ap (λ t. cond t before (before ++ y ∷ [])) (sym inside) ∙ sym (tightened-push front run y)
