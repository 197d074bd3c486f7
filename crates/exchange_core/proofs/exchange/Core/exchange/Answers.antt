use Rattle.std.proofs.Common.{ap, subst, sym, ◌∙◌}
use Rattle.events.specs.Fits.{IsStep}
use Rattle.events.specs.State.{State}
use Rattle.events.specs.declared.Event.{Event}
use Rattle.events.specs.declared.Event.TheVariants.{Exchange}
use Rattle.events.specs.declared.Phase.TheVariants.{Declaring}
use Rattle.block_build.specs.Installed.{Installed}
use Rattle.exchange_core.proofs.Declared.{exchange_kept, exchange_step}
use Rattle.exchange_core.proofs.Steps.{step_from}
use Rattle.exchange_core.specs.View.{IsKept, state_of}
use Rattle.exchange_core.proofs.exchange.Core.exchange.Goals as goal

pub invariant_of-self : goal.invariant_of-self
invariant_of-self c =
    let a = c.self.inside in record {
      kept = subst (λ (x : Installed). IsKept (state_of Declaring c.args.base c.args.size a.registry a.server a.resolved.items a.classes a.adverts.told x a.programs.items) c.in_ok-pool.pool a.programs.items) (sym c.set_capacity.ensures)
          (exchange_kept c.self.invariant.kept (ap (λ (x : State). x.phase) c.self.view_is ∙ c.requires.first) c.args.base c.args.size c.args.capacity c.requires.formed c.in_ok-pool.pool c.in_ok-pool.ensures);
      present = c.self.invariant.present;
    }

pub returns-clause-step : goal.returns-clause-step
returns-clause-step c =
    let a = c.self.inside in
    let e : Event = Exchange c.args.base c.args.size c.args.capacity in
    let s : State = state_of a.phase a.base a.size a.registry a.server a.resolved.items a.classes a.adverts.told a.switch a.programs.items in
    step_from s c.args.self.now e c.bare_reply.result _ c.self.view_is
    (subst (λ (x : Installed). IsStep s e c.bare_reply.result (state_of Declaring c.args.base c.args.size a.registry a.server a.resolved.items a.classes a.adverts.told x a.programs.items)) (sym c.set_capacity.ensures)
    (exchange_step c.self.invariant.kept (ap (λ (x : State). x.phase) c.self.view_is ∙ c.requires.first) c.args.base c.args.size c.args.capacity c.requires.formed c.bare_reply.result c.bare_reply.ensures))
