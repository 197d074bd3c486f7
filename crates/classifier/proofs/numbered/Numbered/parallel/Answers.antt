use Rattle.std.proofs.Common.{◌++◌, ap, ◌∙◌, sym, subst}
use Rattle.net_types.specs.Sets.{Member, SameMembers}
use Rattle.classifier.specs.declared.join.Join.TheVariants.{Union}
use Rattle.classifier.specs.Meaning as lines
use Rattle.classifier.specs.Classifiers.{lines_of}
use Rattle.classifier.proofs.DecideLemmas.{total}
use Rattle.classifier.proofs.ResultLemmas.{meaning-union, cubes-product, assigns-product}
use Rattle.net_types.proofs.MeetLemmas.{IsMeet-append_left, IsMeet-member}
use Rattle.classifier.proofs.AlignedLemmas.{assigns-aligned, cubes-aligned, meaning-aligned}
use Rattle.classifier.proofs.numbered.Numbered.parallel.Goals as goal

pub returns-clause-union : goal.returns-clause-union
returns-clause-union c =
    let a = c.args.a.now.whole in
    let b = c.args.b.now.whole in
    let e = c.in_ok-both.ensures in (λ h l. subst (λ x. SameMembers (lines.meaning x h l) (lines.meaning (lines_of a) h l ++ lines.meaning (lines_of b) h l)) (sym e) (meaning-union (lines_of a) (lines_of b) h l (total (lines_of a) a.total h) (total (lines_of b) b.total h)))

pub returns-clause-cubes : goal.returns-clause-cubes
returns-clause-cubes c =
    let a = lines_of c.args.a.now.whole in
    let b = lines_of c.args.b.now.whole in
    let e = c.in_ok-both.ensures in (λ x h. cubes-product Union a b x (subst (λ y. Member x (lines.cubes_of y)) e h))

pub returns-clause-assigns : goal.returns-clause-assigns
returns-clause-assigns c =
    let a = lines_of c.args.a.now.whole in
    let b = lines_of c.args.b.now.whole in
    let e = c.in_ok-both.ensures in (λ x h. assigns-product Union a b x (subst (λ y. Member x (lines.assigns_of y)) e h))

pub returns-then-are_aligned-clause-union : goal.returns-then-are_aligned-clause-union
returns-then-are_aligned-clause-union c =
    let a = c.args.a.now.whole in
    let b = c.args.b.now.whole in
    let e = c.in_ok-aligned.ensures in
    λ h l. subst (λ x. SameMembers (lines.meaning x h l) (lines.meaning (lines_of a) h l ++ lines.meaning (lines_of b) h l)) (sym e) (meaning-aligned (lines_of a) (lines_of b) h l (sym (ap lines.cubes_of c.lines.ensures.rules) ∙ c.are_aligned.ensures c.if-are_aligned.true ∙ ap lines.cubes_of c.lines-2.ensures.rules))

pub returns-then-are_aligned-clause-cubes : goal.returns-then-are_aligned-clause-cubes
returns-then-are_aligned-clause-cubes c =
    let a = lines_of c.args.a.now.whole in
    let b = lines_of c.args.b.now.whole in
    let same = sym (ap lines.cubes_of c.lines.ensures.rules) ∙ c.are_aligned.ensures c.if-are_aligned.true ∙ ap lines.cubes_of c.lines-2.ensures.rules in
    λ x h. IsMeet-append_left (lines.cubes_of a) (lines.cubes_of b) x
    (IsMeet-member (lines.cubes_of a) x (subst (Member x) (ap lines.cubes_of c.in_ok-aligned.ensures ∙ cubes-aligned a b same) h))

pub returns-then-are_aligned-clause-assigns : goal.returns-then-are_aligned-clause-assigns
returns-then-are_aligned-clause-assigns c =
    let a = lines_of c.args.a.now.whole in
    let b = lines_of c.args.b.now.whole in
    λ m h. assigns-aligned a b m (subst (λ y. Member m (lines.assigns_of y)) c.in_ok-aligned.ensures h)
