use Rattle.std.proofs.Common.{sym, subst}
use Rattle.std.specs.Prelude.{IfOk}
use Rattle.events.specs.State.{State}
use Rattle.net_types.specs.Exports.{pid_of}
use Rattle.plan_cases.proofs.Plans.{asked_of, planned_for}
use Rattle.plan_cases.specs.Parts.{AreAsked, ArePlanned, base_of, state_of}
use Rattle.plan_cases.specs.Policies.{AreCompiled}
use Rattle.plan_cases.proofs.parts.Parts.planned.Goals as goal

pub plan-requires : goal.plan-requires
plan-requires g c =
    let a = c.self.inside in
    let q = c.args.request.now in
    let s : State = state_of a.registry a.server a.classes a.pool a.adverts.told a.switch a.policies.items in
    let asked = subst (λ (x : State). AreAsked x q) (sym c.self.view_is) c.requires.asked in
    let compiled = subst (λ (x : State). AreCompiled (pid_of x.routing) q.texts.items c.args.programs.now) (sym c.self.view_is) c.requires.compiled in (
      base_of s q,
      asked.0,
      asked.1,
      asked_of a.registry a.server a.classes a.pool a.adverts.told a.switch a.policies.items a.adverts.present c.self.invariant asked.0 asked.1 q asked.2 c.args.programs.now compiled c.in_ok-views.views c.in_ok-views.ensures c.deref.result.now c.deref.ensures.value,
    )

pub returns : goal.returns
returns g c =
    let a = c.self.inside in
    let q = c.args.request.now in
    let s : State = state_of a.registry a.server a.classes a.pool a.adverts.told a.switch a.policies.items in
    let asked = subst (λ (x : State). AreAsked x q) (sym c.self.view_is) c.requires.asked in
    let compiled = subst (λ (x : State). AreCompiled (pid_of x.routing) q.texts.items c.args.programs.now) (sym c.self.view_is) c.requires.compiled in
    let asks = asked_of a.registry a.server a.classes a.pool a.adverts.told a.switch a.policies.items a.adverts.present c.self.invariant asked.0 asked.1 q asked.2 c.args.programs.now compiled c.in_ok-views.views c.in_ok-views.ensures c.deref.result.now c.deref.ensures.value in
    subst (λ (x : State). IfOk c.plan.result (ArePlanned x q)) c.self.view_is
    (planned_for s q c.plan.result asked.0 asked.1 asked.2 (c.plan.ensures.plan (base_of s q) asked.0 asked.1 asks) c.plan.ensures.named)
