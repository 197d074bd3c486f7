use Rattle.std.proofs.Common.{◌≡◌, ◌≤◌, List, [], ◌+◌, length, sym, ap, ◌∙◌, subst, arith}
use Rattle.net_types.specs.Sets.{Member}
use Rattle.classifier.specs.declared.line.Line.{Line}
use Rattle.classifier.specs.Lines.{tightened}
use Rattle.classifier.specs.Meaning.{HasDistinctCubes, ends_with_everything, AreTightLines}
use Rattle.classifier.specs.Meaning as lines
use Rattle.classifier.specs.Classifiers.{lines_of}
use Rattle.classifier.proofs.TightLemmas.{distinct-tightened, ends-tightened, tight-tightened, length-tightened, each-tightened, decide-tightened}
use Rattle.classifier.proofs.ResultLemmas.{meaning-same}
use Rattle.classifier.proofs.ops.tighten.Goals as goal
use Rattle.classifier.proofs.ops.tighten.Goals.{In_ok-lines}

made : (c : In_ok-lines) → c.in_ok-lines.lines.items ≡ tightened [] (lines_of c.args.a.now)
made c = c.in_ok-lines.ensures ∙ ap (tightened []) c.lines.ensures.rules

pub from_vec-requires-clause-distinct : goal.from_vec-requires-clause-distinct
from_vec-requires-clause-distinct c = subst HasDistinctCubes (sym (made c)) (distinct-tightened (lines_of c.args.a.now))

pub from_vec-requires-clause-total : goal.from_vec-requires-clause-total
from_vec-requires-clause-total c = let a = c.args.a.now in ap ends_with_everything (made c) ∙ ends-tightened (lines_of a) a.total

pub returns-clause-same : goal.returns-clause-same
returns-clause-same c = λ h l. ap (λ x. lines.meaning x h l) (c.from_vec.ensures ∙ c.in_ok-lines.ensures ∙ ap (tightened []) c.lines.ensures.rules) ∙ meaning-same (tightened [] (lines_of c.args.a.now)) (lines_of c.args.a.now) h l (decide-tightened [] (lines_of c.args.a.now) h)

pub returns-clause-tight : goal.returns-clause-tight
returns-clause-tight c = subst AreTightLines (sym (c.from_vec.ensures ∙ c.in_ok-lines.ensures ∙ ap (tightened []) c.lines.ensures.rules)) (tight-tightened [] (lines_of c.args.a.now) tt)

pub returns-clause-fewer : goal.returns-clause-fewer
returns-clause-fewer c =
    let a = lines_of c.args.a.now in
    subst (λ x. length x ≤ length (lines_of c.args.a.now)) (sym (c.from_vec.ensures ∙ c.in_ok-lines.ensures ∙ ap (tightened []) c.lines.ensures.rules)) (no_more a (length-tightened [] a))
  where
    no_more : (a : List Line) → length (tightened [] a) ≤ 0 + length a → length (tightened [] a) ≤ length a
    no_more a h = omega arith

pub returns-clause-stand : goal.returns-clause-stand
returns-clause-stand c =
    let a = lines_of c.args.a.now in
    λ x h. each-tightened (λ z. Member z (lines_of c.args.a.now)) [] (lines_of c.args.a.now) (λ z k. elim k [ ]) (λ z k. k) x (subst (Member x) (c.from_vec.ensures ∙ c.in_ok-lines.ensures ∙ ap (tightened []) c.lines.ensures.rules) h)
