use Rattle.std.proofs.Common.{◌≡◌, List, ℕ, [], ap, sym, ◌∙◌, ◌++◌, append_assoc, append-nil, arith}
use Rattle.replay_text.proofs.LedFields.{actions-first}
use Rattle.replay_text.proofs.rules.push_actions.Goals as goal

-- the first action by itself, and the others behind it
behind_first : (before first after none front written action others : List ℕ) → none ≡ [] → front ≡ action ++ none → written ≡ front → first ≡ before ++ written → after ≡ first ++ others → after ≡ before ++ (action ++ others)
behind_first before first after none front written action others empty is same one more =
    more ∙ ap (λ t. t ++ others) (one ∙ ap (λ l. before ++ l) (same ∙ is ∙ ap (λ l. action ++ l) empty ∙ append-nil action)) ∙ append_assoc before action others

pub returns-in_ok-push_more_actions-in-len1-up : goal.returns-in_ok-push_more_actions-in-len1-up
returns-in_ok-push_more_actions-in-len1-up c =
    let text = c.args.text.now.items in
    let actions = c.args.actions.now in
    behind_first text _ _ _ _ _ _ _ c.new-front.ensures c.action.ensures.text c.text.ensures c.in_ok-extend_from_slice-in-len1-up.ensures.items c.in_ok-push_more_actions-in-len1-up.ensures
    ∙ sym (ap (λ l. text ++ l) (actions-first actions _ (omega arith)))
