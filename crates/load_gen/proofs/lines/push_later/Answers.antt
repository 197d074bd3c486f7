use Rattle.std.proofs.Common.{◌≡◌, ◌++◌, ◌∙◌, ap, sym, subst, OnOk}
use Rattle.std.specs.Prelude.{string_bytes}
use Rattle.load_gen.specs.Generated.{drawn_line}
use Rattle.load_gen.proofs.Numbering.{generated_later}
use Rattle.load_gen.proofs.lines.push_later.Goals as goal

pub returns : goal.returns
returns c =
    subst (λ xs. OnOk c.push_drawn.result (string_bytes c.push_drawn.new.text ≡ string_bytes c.args.text.now ++ xs)) (ap drawn_line c.new.ensures ∙ sym (generated_later c.args.seed c.args.i c.requires)) c.push_drawn.ensures
