-- One more cube is in the set.
use Rattle.std.proofs.Common.{sym, subst, refl, ◌∙◌, ◌∷◌, [], ap, take, ◌++◌}
use Rattle.std.proofs.lemmas.List.{take_more}
use Rattle.classifier.specs.Seen.{HasAll}
use Rattle.classifier.proofs.SeenLemmas.{has_more}
use Rattle.classifier.proofs.seen.note_all.Goals as goal

pub loop-line-preserved : goal.loop-line-preserved
loop-line-preserved c =
    let xs = c.args.lines.now in
    let at = c.loop-line.line-index in
    let line = c.line-item.result in
    subst (λ ys. HasAll ys c.insert.new.self) (ap (λ x. take at xs ++ x ∷ []) c.line-item.is ∙ sym (take_more xs at line c.loop-line-test.true))
    (has_more (take at xs) c.loop-line.seen c.insert.new.self line.cube line refl c.loop-line.invariant c.in_ok-insert.ensures.updates.0)
