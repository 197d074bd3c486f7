use Rattle.std.proofs.Common.{ap, ◌∙◌}
use Rattle.events.specs.State.{State}
use Rattle.exchange_core.specs.Placed.{is_declared}
use Rattle.events.specs.declared.Event.TheVariants.{Table}
use Rattle.exchange_core.proofs.Lists.{table_kept, table_step}
use Rattle.exchange_core.proofs.Steps.{step_from}
use Rattle.exchange_core.proofs.exchange.Core.table.Goals as goal

pub invariant_of-self : goal.invariant_of-self
invariant_of-self c = record { kept = table_kept c.self.invariant.kept (ap (λ (x : State). is_declared x.phase) c.self.view_is ∙ c.requires); present = c.self.invariant.present }

pub returns-clause-step : goal.returns-clause-step
returns-clause-step c =
    let plain = c.bare_reply-reply.ensures in
    step_from _ c.args.self.now Table _ _ c.self.view_is
    (table_step c.self.invariant.kept (ap (λ (x : State). is_declared x.phase) c.self.view_is ∙ c.requires) _ (λ i. record (plain i) { adds = c.in_ok-flows.ensures i }))
