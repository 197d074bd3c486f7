use Rattle.std.proofs.Common.{◌∷◌, [], Some, refl, ◌∙◌, sym, ap, subst}
use Rattle.net_types.specs.Headers.{no_change}
use Rattle.net_types.specs.Meets.{IsMeet}
use Rattle.net_types.specs.Policies.{plain, test_cube, one_more}
use Rattle.net_types.specs.Policies as model
use Rattle.net_types.specs.declared.headers.Loc.TheVariants.{Stay}
use Rattle.net_types.proofs.CubeLemmas.{has_option}
use Rattle.net_types.proofs.PolicyLemmas.{has-test_cube}
use Rattle.policy_syntax.specs.Views.{pred_of, test_of}
use Rattle.classifier.specs.Compiled.{Filters}
use Rattle.classifier.specs.Sums.{IsSum}
use Rattle.policy_compile.specs.Parts.{AreFilters}
use Rattle.policy_compile.proofs.PartLemmas.{filters-one, filters-both, filter-parts}
use Rattle.classifier.proofs.CompileLemmas
use Rattle.policy_compile.proofs.preds.+filters.Goals as goal

pub compile_pred-returns-in_ok-all-in-Yes : goal.compile_pred-returns-in_ok-all-in-Yes
compile_pred-returns-in_ok-all-in-Yes t c =
    let f = c.in_ok-all-in-Yes.ensures in
    subst (λ p. Filters p c.in_ok-all-in-Yes.all) (sym (ap pred_of c.in-Yes.is))
    (CompileLemmas.filters-items c.in_ok-unchanged-in-Yes.field-0 ((no_change, Stay) ∷ []) c.in_ok-all-in-Yes.all c.in_ok-unchanged-in-Yes.ensures f.all f.cubes f.assigns model.Yes (λ h l. refl) CompileLemmas.no_change_only)

pub compile_pred-returns-in_ok-tested-in-Is : goal.compile_pred-returns-in_ok-tested-in-Is
compile_pred-returns-in_ok-tested-in-Is t c =
    let f = c.in_ok-tested-in-Is.ensures in
    let test = c.in-Is.test in
    subst (λ p. Filters p c.in_ok-tested-in-Is.tested) (sym (ap pred_of c.in-Is.is))
    (CompileLemmas.filters-test (model.Is (test_of c.in-Is.test) c.in-Is.field-1) c.cube_of_test.result c.in_ok-tested-in-Is.tested
    (λ h. ap (λ x. has_option (Some x) h) c.cube_of_test.ensures ∙ has-test_cube (test_of c.in-Is.test) h)
    (λ x h. subst (λ y. IsMeet (y ∷ []) x) c.cube_of_test.ensures h) f.inside f.cubes f.assigns)

pub compile_pred-returns-in_ok-turned-in-Not : goal.compile_pred-returns-in_ok-turned-in-Not
compile_pred-returns-in_ok-turned-in-Not t c =
    let f = c.in_ok-turned-in-Not.ensures in
    let inside = c.in_ok-inside-in-Not.ensures in
    subst (λ p. Filters p c.in_ok-turned-in-Not.turned) (sym (ap pred_of c.in-Not.is))
    (CompileLemmas.filters-not (pred_of c.in-Not.inner.now) c.in_ok-inside-in-Not.inside c.in_ok-turned-in-Not.turned inside f.turned f.cubes f.assigns)

pub compile_pred-returns-in_ok-either-in-Or : goal.compile_pred-returns-in_ok-either-in-Or
compile_pred-returns-in_ok-either-in-Or t c =
    let p = model.Or (pred_of c.in-Or.first.now) (pred_of c.in-Or.second.now) in
    subst (λ q. Filters q c.in_ok-either-in-Or.either) (sym (ap pred_of c.in-Or.is))
    (filter-parts p c.in_ok-parts-in-Or.parts.items c.in_ok-either-in-Or.either c.in_ok-parts-in-Or.ensures
    (subst (λ xs. IsSum xs c.in_ok-either-in-Or.either) c.deref.ensures.value c.in_ok-either-in-Or.ensures))

pub compile_pred-returns-in_ok-both-in-None : goal.compile_pred-returns-in_ok-both-in-None
compile_pred-returns-in_ok-both-in-None t c =
    let f = c.in_ok-both-in-None.ensures in
    let left = c.in_ok-left-in-None.ensures in
    let right = c.in_ok-right-in-None.ensures in
    let apart = ap (λ p. plain (pred_of p)) (sym c.in-And.is) ∙ sym c.plain_cube.ensures ∙ c.in-None.is in
    subst (λ p. Filters p c.in_ok-both-in-None.both) (sym (ap pred_of c.in-And.is))
    (CompileLemmas.filters-and (pred_of c.in-And.first.now) (pred_of c.in-And.second.now) c.in_ok-left-in-None.left c.in_ok-right-in-None.right c.in_ok-both-in-None.both apart left right f.chain f.cubes f.assigns)

pub compile_pred-returns-in_ok-kept-in-Some : goal.compile_pred-returns-in_ok-kept-in-Some
compile_pred-returns-in_ok-kept-in-Some t c =
    let all_plain = ap (λ p. plain (pred_of p)) (sym c.in-And.is) ∙ sym c.plain_cube.ensures ∙ c.in-Some.is in
    subst (λ p. Filters p c.in_ok-kept-in-Some.kept) (sym (ap pred_of c.in-And.is))
    (CompileLemmas.filters-plain (pred_of c.in-And.first.now) (pred_of c.in-And.second.now) c.in-Some.found c.in_ok-kept-in-Some.kept all_plain c.in_ok-kept-in-Some.ensures)

pub filters_of-returns-in_ok-parts-in-Or : goal.filters_of-returns-in_ok-parts-in-Or
filters_of-returns-in_ok-parts-in-Or t c = subst (λ p. AreFilters p c.in_ok-parts-in-Or.parts.items) (sym (ap pred_of c.in-Or.is)) c.in_ok-parts-in-Or.ensures

pub filters_of-returns-in_ok-parts-in_default : goal.filters_of-returns-in_ok-parts-in_default
filters_of-returns-in_ok-parts-in_default t c =
    let p = pred_of c.args.pred.now in
    subst (AreFilters p) (sym c.in_ok-parts-in_default.ensures) (filters-one p c.in_ok-whole-in_default.whole c.in_ok-whole-in_default.ensures)

pub filters_of_both-returns : goal.filters_of_both-returns
filters_of_both-returns t c =
    let p = pred_of c.args.first.now in
    let q = pred_of c.args.second.now in
    subst (AreFilters (model.Or p q)) (sym c.in_ok-parts.ensures) (filters-both p q c.in_ok-left.left.items c.in_ok-right.right.items c.in_ok-left.ensures c.in_ok-right.ensures)
