use Rattle.std.proofs.Common.{ap, ◌∙◌}
use Rattle.events.specs.State.{State}
use Rattle.exchange_core.specs.Placed.{is_declared}
use Rattle.exchange_core.proofs.Lists.{table_kept}
use Rattle.exchange_core.proofs.exchange.Core.start_running.Goals as goal

pub invariant_of-self : goal.invariant_of-self
invariant_of-self c = record { kept = table_kept c.self.invariant.kept (ap (λ (x : State). is_declared x.phase) c.self.view_is ∙ c.requires); present = c.self.invariant.present }
