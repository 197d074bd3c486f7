use Rattle.std.proofs.Common.{refl, sym, ◌∙◌, ◌++◌, ◌∷◌, subst, []}
use Rattle.classifier.specs.Lines.{line}
use Rattle.classifier.specs.Seen.{Agrees}
use Rattle.classifier.proofs.SeenLemmas.{reached, agrees_by_cube}
use Rattle.classifier.proofs.seen.push_reached.Goals as goal

pub returns-clause-lines : goal.returns-clause-lines
returns-clause-lines c = c.in_ok-push.ensures.items ∙ reached c.args.lines.now.items c.args.next c.requires.reached

pub returns-clause-agrees : goal.returns-clause-agrees
returns-clause-agrees c =
    subst (λ xs. Agrees xs c.note_next.new.seen) (sym c.in_ok-push.ensures.items) (agrees_by_cube c.args.lines.now.items c.note_next.new.seen (line [] c.args.next.cube) c.args.next refl (subst (λ xs. Agrees (xs ++ line [] c.args.next.cube ∷ []) c.note_next.new.seen) c.deref.ensures.value c.in_ok-note_next.ensures))
