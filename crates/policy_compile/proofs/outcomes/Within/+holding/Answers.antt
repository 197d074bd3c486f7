use Rattle.std.proofs.Common.{◌≡◌, None, Some, sym, ap, ◌∙◌, subst}
use Rattle.policy_syntax.specs.Views.{pred_of}
use Rattle.policy_compile.specs.Columns.{outcome_at}
use Rattle.policy_compile.specs.Paths.{pred_at, part_at}
use Rattle.policy_compile.proofs.OutcomeLemmas.{parts-decide, plain-decides}
use Rattle.policy_compile.proofs.outcomes.Within.+holding.Goals as goal

pub of_parts-returns-in_ok-others-in-Not-clause-tells : goal.of_parts-returns-in_ok-others-in-Not-clause-tells
of_parts-returns-in_ok-others-in-Not-clause-tells t c = λ k m there.
    subst (λ p. outcome_at c.in_ok-others-in-Not.others k ≡ part_at m c.args.set.now (pred_of p)) (sym c.in-Not.is)
    (c.in_ok-others-in-Not.ensures (λ x. pred_at x c.args.set.now (pred_of c.in-Not.inner.now)) c.in_ok-outcome-in-Not.ensures.tells k m there)

pub of_pred-returns-in_ok-outcome-in-Some-Some-clause-tells : goal.of_pred-returns-in_ok-outcome-in-Some-Some-clause-tells
of_pred-returns-in_ok-outcome-in-Some-Some-clause-tells t c = λ k m there.
    c.in_ok-outcome-in-Some-Some.ensures.tells k m there
    ∙ plain-decides m c.args.set.now (pred_of c.args.pred.now) (Some c.in-Some-Some.test) (sym c.plain_cube.ensures ∙ c.in-Some-Some.is ∙ ap Some c.in-Some-Some.field-0-is)

pub of_pred-returns-in-Some-None-clause-tells : goal.of_pred-returns-in-Some-None-clause-tells
of_pred-returns-in-Some-None-clause-tells t c = λ k m there.
    plain-decides m c.args.set.now (pred_of c.args.pred.now) None (sym c.plain_cube.ensures ∙ c.in-Some-None.is ∙ ap Some c.in-Some-None.field-0-is)

pub of_pred-returns-in_ok-outcome-in-None-clause-tells : goal.of_pred-returns-in_ok-outcome-in-None-clause-tells
of_pred-returns-in_ok-outcome-in-None-clause-tells t c = λ k m there.
    c.in_ok-outcome-in-None.ensures.tells k m there ∙ parts-decide m c.args.set.now (pred_of c.args.pred.now) (sym c.plain_cube.ensures ∙ c.in-None.is)
