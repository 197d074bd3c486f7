use Rattle.std.proofs.Common.{◌≡◌, ◌∷◌, ◌++◌, List, ℕ, ap, sym, ◌∙◌, append_assoc}
use Rattle.std.specs.Fmt.{decimal}
use Rattle.events.specs.Text.{in_brackets}
use Rattle.replay_text.specs.Fields.{set_fields}
use Rattle.replay_text.proofs.ClosedFields.{bracket-none, bracket-some}
use Rattle.replay_text.proofs.front.Front.action.Goals as goal
use Rattle.replay_text.proofs.front.Front.action.Goals.{then-close-eq44, else-close-eq44}

pub returns-clause-text : goal.returns-clause-text
returns-clause-text c =
    let text = c.args.self.now in
    let fields = set_fields c.args.action.set in
    let port = decimal c.args.action.port.0 in
    let put = c.set_fields-close.ensures in
    let behind : c.if-close-eq44.self ≡ in_brackets fields ++ text =
    elim c.if-close-eq44.branch [
      | then-close-eq44 w ↦ w.self-is ∙ w.sign.ensures ∙ ap (λ (l : List ℕ). 91 ∷ l) put.text ∙ ap (λ l. l ++ text) (sym (bracket-some fields (sym put.next ∙ w.if-close-eq44.true)))
      | else-close-eq44 w ↦ w.self-is ∙ put.text ∙ ap (λ l. l ++ text) (sym (bracket-none fields (λ e. w.if-close-eq44.false (put.next ∙ e))))
    ] in
    c.short.ensures.text ∙ ap (λ l. port ++ l) behind ∙ sym (append_assoc port (in_brackets fields) text)
