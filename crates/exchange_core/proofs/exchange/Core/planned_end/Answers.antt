use Rattle.std.proofs.Common.{subst, sym, refl, ◌∙◌}
use Rattle.events.specs.State.{State}
use Rattle.recompile.specs.Setting.{setting_of}
use Rattle.recompile.specs.Working.{IsSwap}
use Rattle.exchange_core.specs.View.{state_of}
use Rattle.exchange_core.proofs.Ended.{Shows, ending, shown_by, steady_with}
use Rattle.exchange_core.proofs.exchange.Core.planned_end.Goals as goal

pub plan_end-requires : goal.plan_end-requires
plan_end-requires c =
    let a = c.self.inside in
    let s : State = state_of a.phase a.base a.size a.registry a.server a.resolved.items a.classes a.adverts.told a.switch a.programs.items in
    let shows : Shows s a.registry a.classes a.pool a.switch a.adverts = shown_by a.phase a.base a.size a.registry a.server a.resolved.items a.classes a.adverts a.switch a.programs.items a.pool c.self.invariant.kept c.self.invariant.present in (
      s,
      ending s a.registry a.classes a.pool a.switch a.adverts shows s refl (steady_with s s refl c.self.invariant.kept.steady tt) c.args.swap.now
          (subst (λ (x : State). IsSwap (setting_of x) c.args.swap.now) (sym c.self.view_is) c.requires),
    )

pub returns : goal.returns
returns c = λ w steady is.
    let a = c.self.inside in
    let s : State = state_of a.phase a.base a.size a.registry a.server a.resolved.items a.classes a.adverts.told a.switch a.programs.items in
    let shows : Shows s a.registry a.classes a.pool a.switch a.adverts = shown_by a.phase a.base a.size a.registry a.server a.resolved.items a.classes a.adverts a.switch a.programs.items a.pool c.self.invariant.kept c.self.invariant.present in
    c.plan_end.ensures w (ending s a.registry a.classes a.pool a.switch a.adverts shows w (is ∙ sym c.self.view_is) steady c.args.swap.now (subst (λ (x : State). IsSwap (setting_of x) c.args.swap.now) (sym c.self.view_is) c.requires))
