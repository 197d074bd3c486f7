use Rattle.std.proofs.Common.{ap, sym, ◌∙◌, ◌++◌}
use Rattle.events.specs.Text.{prefix_text}
use Rattle.replay_text.specs.Fields.{led}
use Rattle.replay_text.proofs.LedFields.{prefix-some, written_field}
use Rattle.replay_text.proofs.rules.push_prefix_field.Goals as goal

pub returns-clause-written : goal.returns-clause-written
returns-clause-written c =
    let a = c.args in
    let text = a.text.now.items in
    let field = prefix-some a.name.now a.prefix c.if-prefix-eq0.false in
    c.in_ok-push_prefix.ensures ∙ ap (λ t. t ++ prefix_text a.prefix) c.in_ok-push_name.ensures
    ∙ written_field text a.lead.now a.name.now (prefix_text a.prefix)
    ∙ sym (ap (λ f. text ++ led a.lead.now f) field)
