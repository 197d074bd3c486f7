use Rattle.std.proofs.Common.{ap, sym, ◌∙◌}
use Rattle.exchange_core.specs.Programs.{all_lent, changed}
use Rattle.exchange_core.proofs.Compiled.{answers_same, lent_inbound, lent_outbound}
use Rattle.exchange_core.proofs.programs.lend_changed.Goals as goal

pub returns-in-Outbound : goal.returns-in-Outbound
returns-in-Outbound c =
    answers_same c.lend_with.result _ _
    (lent_outbound c.args.programs.now c.in-Outbound.who c.in-Outbound.program c.index-programs-who.result ∙ ap (λ x. all_lent (changed c.args.programs.now x)) (sym c.in-Outbound.is)) c.lend_with.ensures

pub returns-in-Inbound : goal.returns-in-Inbound
returns-in-Inbound c =
    answers_same c.lend_with-in-Inbound.result _ _
    (lent_inbound c.args.programs.now c.in-Inbound.who c.in-Inbound.program c.index-programs-who-in-Inbound.result ∙ ap (λ x. all_lent (changed c.args.programs.now x)) (sym c.in-Inbound.is))
    c.lend_with-in-Inbound.ensures
