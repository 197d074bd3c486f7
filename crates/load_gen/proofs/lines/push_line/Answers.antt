use Rattle.std.proofs.Common.{◌≡◌, ◌++◌, subst, OnOk}
use Rattle.std.specs.Prelude.{string_bytes}
use Rattle.load_gen.proofs.Numbering.{generated_first}
use Rattle.load_gen.proofs.lines.push_line.Goals as goal

pub returns-then-i-eq0 : goal.returns-then-i-eq0
returns-then-i-eq0 c =
    subst (λ xs. OnOk c.push_exchange.result (string_bytes c.push_exchange.new.text ≡ string_bytes c.args.text.now ++ xs)) (generated_first c.args.seed c.args.i c.if-i-eq0.true) c.push_exchange.ensures
