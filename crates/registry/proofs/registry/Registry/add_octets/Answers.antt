use Rattle.std.proofs.Common.{◌≡◌, ap, sym, ◌∙◌, true, false, true≢false}
use Rattle.std.specs.Prelude.{is_some}
use Rattle.registry.specs.Registered.{named}
use Rattle.registry.proofs.registry.Registry.add_octets.Goals as goal
use Rattle.registry.proofs.registry.Registry.add_octets.Goals.{in-Ok, in-Err}

pub returns-then-is_some-clause-full : goal.returns-then-is_some-clause-full
returns-then-is_some-clause-full c =
    let there : is_some (named c.args.self.now c.args.name.now) ≡ true = ap is_some (sym c.find_octets.ensures) ∙ sym c.is_some.ensures ∙ c.if-is_some.true in
    (λ e. cc, λ full. absurd (true≢false (sym there ∙ full.0)))

pub returns-then-place-ge-MOST_PARTICIPANTS-clause-taken : goal.returns-then-place-ge-MOST_PARTICIPANTS-clause-taken
returns-then-place-ge-MOST_PARTICIPANTS-clause-taken c =
    let absent : is_some (named c.args.self.now c.args.name.now) ≡ false = ap is_some (sym c.find_octets.ensures) ∙ sym c.is_some.ensures ∙ c.if-is_some.false in
    (λ e. cc, λ there. absurd (true≢false (sym there ∙ absent)))

pub returns-clause-taken : goal.returns-clause-taken
returns-clause-taken c =
    let absent : is_some (named c.args.self.now c.args.name.now) ≡ false = ap is_some (sym c.find_octets.ensures) ∙ sym c.is_some.ensures ∙ c.if-is_some.false in
    elim c.match-add.branch [
      | in-Ok w ↦ (λ e. let r = w.result-is in cc, λ there. absurd (true≢false (sym there ∙ absent)))
      | in-Err w ↦ (λ e. let r = w.result-is in cc, λ there. absurd (true≢false (sym there ∙ absent)))
    ]
