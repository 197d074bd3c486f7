use Rattle.std.proofs.Common.{◌++◌, ap, sym, ◌∙◌, map}
use Rattle.events.specs.Text.{action_text, or_none}
use Rattle.net_types.proofs.ActionOrder.{actions_test}
use Rattle.replay_text.proofs.rules.push_listed.Goals as goal

pub returns-then-same_items : goal.returns-then-same_items
returns-then-same_items c =
    let same = (actions_test c.in-Some.last.actions.now c.args.actions.now).0 (sym c.same_items.ensures ∙ c.if-same_items.true) in
    c.in_ok-extend_from_slice.ensures.items ∙ ap (λ l. c.args.text.now.items ++ l) (c.as_slice.ensures.value ∙ c.in-Some.last.is ∙ ap (λ l. or_none (map action_text l)) same)
