use Rattle.std.proofs.Common.{ap, sym, ◌∙◌, ◌++◌, append_assoc, codes}
use Rattle.events.specs.Text.{address_text, head_text}
use Rattle.replay_text.proofs.replies.push_head.Goals as goal

pub returns-in_ok-push_address-in-Unresolved : goal.returns-in_ok-push_address-in-Unresolved
returns-in_ok-push_address-in-Unresolved c =
    let text = c.args.text.now.items in
    let ip = c.in-Unresolved.ip in
    c.in_ok-push_address-in-Unresolved.ensures ∙ ap (λ t. t ++ address_text ip) c.in_ok-extend_from_slice-in-Unresolved.ensures.items
    ∙ append_assoc text (codes "unresolved ") (address_text ip) ∙ sym (ap (λ h. text ++ head_text h) c.in-Unresolved.is)
