use Rattle.std.proofs.Common.{◌≡◌, sym, ◌∙◌, false, true≢false}
use Rattle.registry.specs.Registered.{is_taken}
use Rattle.registry.proofs.registry.Registry.add_port.Goals as goal
use Rattle.registry.proofs.registry.Registry.add_port.Goals.{in-Ok, in-Err}

pub returns-clause-taken : goal.returns-clause-taken
returns-clause-taken c =
    let absent : is_taken c.args.self.now c.args.number c.args.ip c.args.mac ≡ false = sym c.is_taken.ensures ∙ c.if-is_taken.false in
    elim c.match-add.branch [
      | in-Ok w ↦ (λ e. let r = w.result-is in cc, λ there. absurd (true≢false (sym there ∙ absent)))
      | in-Err w ↦ (λ e. let r = w.result-is in cc, λ there. absurd (true≢false (sym there ∙ absent)))
    ]
