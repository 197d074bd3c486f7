use Rattle.std.proofs.Common.{◌≡◌, ◌++◌, ◌∷◌, List, ℕ, ap, ◌∙◌, append_assoc, codes}
use Rattle.events.specs.Text.{end_line, pair_text, rule_text}
use Rattle.replay_text.proofs.replies.push_pair_rule.Goals as goal

-- the parts of a line, from the left and from the right
whole_line : (text word pair rule : List ℕ) → ((text ++ (word ++ (pair ++ codes " "))) ++ rule) ++ end_line ≡ text ++ (word ++ (pair ++ codes " " ++ rule ++ end_line))
whole_line text word pair rule = simp append_assoc

pub returns : goal.returns
returns c =
    let text = c.args.text.now.items in
    let word = c.args.word.now in
    let pair = pair_text c.args.flow.now.pair in
    let rule = rule_text c.args.flow.now.rule in
    let front : c.text.result.now ≡ word ++ (pair ++ codes " ") =
    c.text.ensures ∙ c.word.ensures ∙ ap (λ l. word ++ l) (c.pair.ensures.text ∙ ap (λ l. pair ++ l) (c.sign.ensures ∙ ap (λ (l : List ℕ). 32 ∷ l) c.new-front.ensures)) in
    c.in_ok-push.ensures.items
    ∙ ap (λ l. l ++ end_line) (c.in_ok-push_rule.ensures ∙ ap (λ l. l ++ rule) (c.in_ok-extend_from_slice.ensures.items ∙ ap (λ l. text ++ l) front))
    ∙ whole_line text word pair rule
