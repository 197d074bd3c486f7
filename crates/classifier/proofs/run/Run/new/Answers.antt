use Rattle.std.proofs.Common.{◌≡◌, true, List, ap, ◌∙◌}
use Rattle.classifier.specs.Hulls.{holds_each}
use Rattle.classifier.proofs.HullLemmas.{everything_holds, hull_holds}
use Rattle.classifier.specs.declared.line.Line.{Line}
use Rattle.classifier.proofs.run.Run.new.Goals as goal
use Rattle.classifier.proofs.run.Run.new.Goals.{in-Some, in-None}

pub invariant_of-result : goal.invariant_of-result
invariant_of-result c =
    let lines : List Line = c.args.lines.now in
    let held : holds_each c.match-first.hull lines ≡ true = elim c.match-first.branch [
      | in-Some w ↦ ap (λ hull. holds_each hull lines) (w.hull-is ∙ w.hull_of-hull.ensures) ∙ hull_holds w.in-Some.first.now.cube lines
      | in-None w ↦ ap (λ hull. holds_each hull lines) (w.hull-is ∙ w.everything-hull.ensures) ∙ everything_holds lines
    ] in
    record { held = held }
