use Rattle.std.proofs.Common.{◌≡◌, [], sym, ap, ◌∙◌, subst}
use Rattle.classifier.specs.Lines.{add_lines, composed}
use Rattle.classifier.specs.Meaning.{HasDistinctCubes, ends_with_everything}
use Rattle.classifier.specs.Classifiers.{lines_of}
use Rattle.classifier.proofs.ShapeLemmas.{distinct-add_lines, ends-add_lines, ends-everything}
use Rattle.classifier.proofs.LineLemmas.{composed-everything}
use Rattle.classifier.proofs.ops.compose.Goals as goal
use Rattle.classifier.proofs.ops.compose.Goals.{In_ok-lines}

-- the lines that are made, of those of both
made : (c : In_ok-lines) → c.in_ok-lines.lines.items ≡ add_lines [] (composed (lines_of c.args.a.now) (lines_of c.args.b.now))
made c =
    c.in_ok-lines.ensures
    ∙ ap (λ xs. add_lines [] (composed xs c.lines-2.result.now)) c.lines.ensures.rules
    ∙ ap (λ ys. add_lines [] (composed (lines_of c.args.a.now) ys)) c.lines-2.ensures.rules

pub from_vec-requires-clause-distinct : goal.from_vec-requires-clause-distinct
from_vec-requires-clause-distinct c = subst HasDistinctCubes (sym (made c)) (distinct-add_lines [] (composed (lines_of c.args.a.now) (lines_of c.args.b.now)) tt)

pub from_vec-requires-clause-total : goal.from_vec-requires-clause-total
from_vec-requires-clause-total c =
    let a = c.args.a.now in
    let b = c.args.b.now in
    ap ends_with_everything (made c) ∙ ends-add_lines (composed (lines_of a) (lines_of b)) (composed-everything (lines_of a) (lines_of b) (ends-everything (lines_of a) a.total) (ends-everything (lines_of b) b.total))
