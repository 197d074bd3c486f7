use Rattle.std.proofs.Common.{sym, ap, subst, ◌∙◌, refl}
use Rattle.std.specs.Prelude.{MatchResult}
use Rattle.events.specs.State.{State}
use Rattle.fast_path.specs.Plans.{IsFault, IsPlan, IsWithinSteps}
use Rattle.exchange_core.specs.Building.{Leads, base_of}
use Rattle.exchange_core.specs.Programs.{all_lent, changed}
use Rattle.exchange_core.specs.View.{state_of}
use Rattle.exchange_core.proofs.Builds.{asked_of}
use Rattle.exchange_core.proofs.exchange.Core.planned.Goals as goal

pub plan-requires : goal.plan-requires
plan-requires g c =
    let q = c.args.request.now in
    let a = c.self.inside in
    let s : State = state_of a.phase a.base a.size a.registry a.server a.resolved.items a.classes a.adverts.told a.switch a.programs.items in
    let e = c.requires.0 in
    let r = c.requires.1 in
    let is_rebuilt = c.requires.2 in
    let here : Leads s e r is_rebuilt q = subst (λ (x : State). Leads x e r is_rebuilt q) (sym c.self.view_is) c.requires.3 in (
      base_of s q,
      r,
      is_rebuilt,
      asked_of s e r is_rebuilt q a.registry a.classes a.pool a.adverts.told a.switch a.programs.items c.in-Ok.views c.deref-2.result.now
          refl refl refl refl refl refl refl refl refl c.self.invariant.kept (c.in-Ok.ensures ∙ ap (λ ps. all_lent (changed ps q.change)) c.deref.ensures.value) c.deref-2.ensures.value here,
    )

pub returns-clause-plan : goal.returns-clause-plan
returns-clause-plan g c = λ e r is_rebuilt leads.
    let q = c.args.request.now in
    let a = c.self.inside in
    let s : State = state_of a.phase a.base a.size a.registry a.server a.resolved.items a.classes a.adverts.told a.switch a.programs.items in
    let here : Leads s e r is_rebuilt q = subst (λ (x : State). Leads x e r is_rebuilt q) (sym c.self.view_is) leads in
    subst (λ (x : State). MatchResult c.plan.result (IsPlan (base_of x q) r is_rebuilt) (IsFault (base_of x q) r)) c.self.view_is
    (c.plan.ensures.plan (base_of s q) r is_rebuilt (asked_of s e r is_rebuilt q a.registry a.classes a.pool a.adverts.told a.switch a.programs.items c.in-Ok.views c.deref-2.result.now
    refl refl refl refl refl refl refl refl refl c.self.invariant.kept (c.in-Ok.ensures ∙ ap (λ ps. all_lent (changed ps q.change)) c.deref.ensures.value) c.deref-2.ensures.value here))

pub returns-clause-steps : goal.returns-clause-steps
returns-clause-steps g c = λ e r is_rebuilt leads.
    let q = c.args.request.now in
    let a = c.self.inside in
    let s : State = state_of a.phase a.base a.size a.registry a.server a.resolved.items a.classes a.adverts.told a.switch a.programs.items in
    let here : Leads s e r is_rebuilt q = subst (λ (x : State). Leads x e r is_rebuilt q) (sym c.self.view_is) leads in
    subst (λ (x : State). IsWithinSteps (base_of x q) r is_rebuilt c.args.steps.now c.plan.new.steps) c.self.view_is
    (c.plan.ensures.steps (base_of s q) r is_rebuilt (asked_of s e r is_rebuilt q a.registry a.classes a.pool a.adverts.told a.switch a.programs.items c.in-Ok.views c.deref-2.result.now
    refl refl refl refl refl refl refl refl refl c.self.invariant.kept (c.in-Ok.ensures ∙ ap (λ ps. all_lent (changed ps q.change)) c.deref.ensures.value) c.deref-2.ensures.value here))
