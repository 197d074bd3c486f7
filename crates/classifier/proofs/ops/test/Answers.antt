use Rattle.std.proofs.Common.{[], inl, inr, refl, sym, ap, ◌∙◌, subst}
use Rattle.net_types.specs.Sets.{Member}
use Rattle.classifier.specs.Lines.{tested}
use Rattle.classifier.specs.Meaning.{HasDistinctCubes, ends_with_everything}
use Rattle.classifier.specs.Meaning as lines
use Rattle.classifier.proofs.ShapeLemmas.{distinct-add_lines, ends-add_lines}
use Rattle.classifier.proofs.ResultLemmas.{meaning-tested, cubes-tested, assigns-tested}
use Rattle.classifier.proofs.ops.test.Goals as goal

pub from_vec-requires-clause-distinct : goal.from_vec-requires-clause-distinct
from_vec-requires-clause-distinct c = subst HasDistinctCubes (sym c.in_ok-lines.ensures) (distinct-add_lines [] (tested c.args.cube.now) tt)

pub from_vec-requires-clause-total : goal.from_vec-requires-clause-total
from_vec-requires-clause-total c = ap ends_with_everything c.in_ok-lines.ensures ∙ ends-add_lines (tested c.args.cube.now) (inr (inl refl))

pub returns-clause-inside : goal.returns-clause-inside
returns-clause-inside c = λ h l. ap (λ x. lines.meaning x h l) (c.from_vec.ensures ∙ c.in_ok-lines.ensures) ∙ meaning-tested c.args.cube.now h l

pub returns-clause-cubes : goal.returns-clause-cubes
returns-clause-cubes c = λ x h. cubes-tested c.args.cube.now x (subst (λ y. Member x (lines.cubes_of y)) (c.from_vec.ensures ∙ c.in_ok-lines.ensures) h)

pub returns-clause-assigns : goal.returns-clause-assigns
returns-clause-assigns c = λ m h. assigns-tested c.args.cube.now m (subst (λ y. Member m (lines.assigns_of y)) (c.from_vec.ensures ∙ c.in_ok-lines.ensures) h)
