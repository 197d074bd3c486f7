use Rattle.std.proofs.Common.{ap, sym, ◌∙◌, ◌++◌, ℕ, append_assoc, codes}
use Rattle.std.specs.Fmt.{decimal}
use Rattle.events.specs.Text.{refusal_text}
use Rattle.replay_text.proofs.replies.push_refusal.Goals as goal

pub returns-in_ok-push_two-in-NoNextHop : goal.returns-in_ok-push_two-in-NoNextHop
returns-in_ok-push_two-in-NoNextHop c =
    let text = c.args.text.now.items in
    let need = c.in-NoNextHop.need in
    let numbers = decimal need ++ codes " " ++ decimal c.in-NoNextHop.free in
    c.in_ok-push_two-in-NoNextHop.ensures
    ∙ ap (λ (n : ℕ). c.extend_from_slice-in-NoNextHop.new.self.items ++ (decimal need ++ codes " " ++ decimal n)) c.from-in-NoNextHop.ensures
    ∙ ap (λ t. t ++ numbers) c.in_ok-extend_from_slice-in-NoNextHop.ensures.items
    ∙ append_assoc text (codes "no-next-hop ") numbers ∙ sym (ap (λ r. text ++ refusal_text r) c.in-NoNextHop.is)
