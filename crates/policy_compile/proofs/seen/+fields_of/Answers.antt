use Rattle.std.proofs.Common.{◌∙◌, sym, ap}
use Rattle.policy_syntax.specs.Views.{pred_of}
use Rattle.policy_compile.specs.Seen.{both_fields, tested}
use Rattle.policy_compile.proofs.SeenLemmas.{tested-decide}
use Rattle.policy_compile.proofs.seen.+fields_of.Goals as goal

pub returns-in-Is-clause-decide : goal.returns-in-Is-clause-decide
returns-in-Is-clause-decide t c = tested-decide c.of_test.result (pred_of c.args.pred.now) (c.of_test.ensures ∙ sym (ap (λ p. tested (pred_of p)) c.in-Is.is))

pub returns-in-And-clause-decide : goal.returns-in-And-clause-decide
returns-in-And-clause-decide t c =
    tested-decide c.with.result (pred_of c.args.pred.now)
    (c.with.ensures ∙ ap (λ f. both_fields f c.fields_of-in-And-2.result) c.fields_of-in-And.ensures.tested
    ∙ ap (both_fields (tested (pred_of c.in-And.first.now))) c.fields_of-in-And-2.ensures.tested ∙ sym (ap (λ p. tested (pred_of p)) c.in-And.is))

pub returns-in-Or-clause-decide : goal.returns-in-Or-clause-decide
returns-in-Or-clause-decide t c =
    tested-decide c.with-in-Or.result (pred_of c.args.pred.now)
    (c.with-in-Or.ensures ∙ ap (λ f. both_fields f c.fields_of-in-Or-2.result) c.fields_of-in-Or.ensures.tested
    ∙ ap (both_fields (tested (pred_of c.in-Or.first.now))) c.fields_of-in-Or-2.ensures.tested ∙ sym (ap (λ p. tested (pred_of p)) c.in-Or.is))
