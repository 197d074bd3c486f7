use Rattle.std.proofs.Common.{ap, ◌∙◌, subst}
use Rattle.net_types.specs.Sets.{Member}
use Rattle.classifier.specs.declared.join.Join.TheVariants.{Otherwise}
use Rattle.classifier.specs.Meaning as lines
use Rattle.classifier.specs.Classifiers.{lines_of}
use Rattle.classifier.proofs.DecideLemmas.{total}
use Rattle.classifier.proofs.ResultLemmas.{meaning-otherwise, cubes-product, assigns-product}
use Rattle.classifier.proofs.ops.choose.Goals as goal

pub returns-clause-otherwise : goal.returns-clause-otherwise
returns-clause-otherwise c =
    let a = c.args.a.now in
    let b = c.args.b.now in
    let e = c.in_ok-chosen.ensures in (λ h l. ap (λ x. lines.meaning x h l) e ∙ meaning-otherwise (lines_of a) (lines_of b) h l (total (lines_of a) a.total h) (total (lines_of b) b.total h))

pub returns-clause-cubes : goal.returns-clause-cubes
returns-clause-cubes c =
    let a = lines_of c.args.a.now in
    let b = lines_of c.args.b.now in
    let e = c.in_ok-chosen.ensures in (λ x h. cubes-product Otherwise a b x (subst (λ y. Member x (lines.cubes_of y)) e h))

pub returns-clause-assigns : goal.returns-clause-assigns
returns-clause-assigns c =
    let a = lines_of c.args.a.now in
    let b = lines_of c.args.b.now in
    let e = c.in_ok-chosen.ensures in (λ x h. assigns-product Otherwise a b x (subst (λ y. Member x (lines.assigns_of y)) e h))
