use Rattle.std.proofs.Common.{◌≡◌, sym, ap, ◌∙◌, subst}
use Rattle.net_types.specs.Sets.{Member}
use Rattle.classifier.specs.Lines.{negated}
use Rattle.classifier.specs.Meaning.{HasDistinctCubes, ends_with_everything}
use Rattle.classifier.specs.Meaning as lines
use Rattle.classifier.specs.Classifiers.{lines_of}
use Rattle.classifier.proofs.DecideLemmas.{total}
use Rattle.classifier.proofs.TightLemmas.{distinct-negated, ends-negated, cubes-negated}
use Rattle.classifier.proofs.ResultLemmas.{meaning-negated, assigns-negated}
use Rattle.classifier.proofs.ops.negate.Goals as goal
use Rattle.classifier.proofs.ops.negate.Goals.{In_ok-lines}

made : (c : In_ok-lines) → c.in_ok-lines.lines.items ≡ negated (lines_of c.args.a.now)
made c = c.in_ok-lines.ensures ∙ ap negated c.lines.ensures.rules

pub from_vec-requires-clause-distinct : goal.from_vec-requires-clause-distinct
from_vec-requires-clause-distinct c = let a = c.args.a.now in subst HasDistinctCubes (sym (made c)) (distinct-negated (lines_of a) a.distinct)

pub from_vec-requires-clause-total : goal.from_vec-requires-clause-total
from_vec-requires-clause-total c = let a = c.args.a.now in ap ends_with_everything (made c) ∙ ends-negated (lines_of a) ∙ a.total

pub returns-clause-turned : goal.returns-clause-turned
returns-clause-turned c =
    let a = c.args.a.now in
    λ h l. ap (λ x. lines.meaning x h l) (c.from_vec.ensures ∙ c.in_ok-lines.ensures ∙ ap negated c.lines.ensures.rules) ∙ meaning-negated (lines_of a) h l (total (lines_of a) a.total h)

pub returns-clause-cubes : goal.returns-clause-cubes
returns-clause-cubes c = ap lines.cubes_of (c.from_vec.ensures ∙ c.in_ok-lines.ensures ∙ ap negated c.lines.ensures.rules) ∙ cubes-negated (lines_of c.args.a.now)

pub returns-clause-assigns : goal.returns-clause-assigns
returns-clause-assigns c = λ m h. assigns-negated (lines_of c.args.a.now) m (subst (λ y. Member m (lines.assigns_of y)) (c.from_vec.ensures ∙ c.in_ok-lines.ensures ∙ ap negated c.lines.ensures.rules) h)
