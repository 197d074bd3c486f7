use Rattle.std.proofs.Common.{length, arith, ap, sym, subst, ◌∙◌, refl}
use Rattle.std.specs.Prelude.{Bool, IfErr, unwrap_or}
use Rattle.events.specs.Fits.{IsStep}
use Rattle.events.specs.State.{State}
use Rattle.events.specs.declared.Phase.TheVariants.{Running}
use Rattle.events.specs.declared.Event.{Event}
use Rattle.net_types.specs.Exports.{Routing}
use Rattle.net_types.specs.declared.rule.Pair.{Pair}
use Rattle.exchange_laws.proofs.FullTables.{full_tables_are_refused}
use Rattle.fast_path.specs.Offers.{all_present}
use Rattle.fast_path.specs.Plans.{IsPlan}
use Rattle.route_server.specs.Proposed.{named_with}
use Rattle.route_server.specs.Served.{Reaches}
use Rattle.exchange_core.specs.Building.{Leads, base_of}
use Rattle.exchange_core.specs.Stops.{IsStop, fast_stop}
use Rattle.exchange_core.specs.View.{IsKept, state_of}
use Rattle.exchange_core.proofs.Builds.{change_placed, committed_kept, committed_step, fault_stops, memory_stops, parts_of, planned_of, says, state_then}
use Rattle.exchange_core.specs.Jobs.{IsTold, KeepsJob}
use Rattle.exchange_core.proofs.Told.{err_here, few_added, same_state, told_keeps}
use Rattle.exchange_core.proofs.Stops.{returned}
use Rattle.exchange_core.proofs.exchange.Core.build.Goals as goal

pub returns-in_err-plan-clause-stop : goal.returns-in_err-plan-clause-stop
returns-in_err-plan-clause-stop g c =
    let st : State = c.args.self.now in
    let q = c.args.request in
    let fault = c.in_err-plan.field-0.0 in
    returned (λ x. IfErr x (λ stop. (e : Event) (r : Routing) (is_rebuilt : Pair → Bool) → Leads st e r is_rebuilt q → IsStop st e stop)) c.from_residual.result (fast_stop fault) c.from_residual.ensures.1
    (λ e r is_rebuilt leads. fault_stops full_tables_are_refused st e r is_rebuilt q fault leads (c.in_err-plan.ensures.plan e r is_rebuilt leads))

pub reserve-requires-2-clause-declared : goal.reserve-requires-2-clause-declared
reserve-requires-2-clause-declared g c = sym c.self.invariant.kept.steady.told

pub reserve-requires-2-clause-known : goal.reserve-requires-2-clause-known
reserve-requires-2-clause-known g c =
    let q = c.args.request in
    let a = c.self.inside in
    let s : State = state_of a.phase a.base a.size a.registry a.server a.resolved.items a.classes a.adverts.told a.switch a.programs.items in
    let plan = c.in_ok-plan.plan in
    let here : Leads s c.requires.0 c.requires.2 c.requires.3 q = subst (λ (x : State). Leads x c.requires.0 c.requires.2 c.requires.3 q) (sym c.self.view_is) c.requires.4 in
    let plans : IsPlan (base_of s q) c.requires.2 c.requires.3 plan = subst (λ (x : State). IsPlan (base_of x q) c.requires.2 c.requires.3 plan) (sym c.self.view_is) (c.in_ok-plan.ensures.plan c.requires.0 c.requires.2 c.requires.3 c.requires.4) in
    c.plans_are_committed.ensures.known (base_of s q) c.requires.2 c.requires.3 plan (planned_of s c.requires.0 c.requires.2 c.requires.3 q plan here plans)

pub commit-changes-requires : goal.commit-changes-requires
commit-changes-requires g c =
    let q = c.args.request in
    let a = c.self.inside in
    let s : State = state_of a.phase a.base a.size a.registry a.server a.resolved.items a.classes a.adverts.told a.switch a.programs.items in
    let e = c.requires.0 in
    let r = c.requires.2 in
    let is_rebuilt = c.requires.3 in
    let leads = c.requires.4 in
    let plan = c.in_ok-plan.plan in
    let here : Leads s e r is_rebuilt q = subst (λ (x : State). Leads x e r is_rebuilt q) (sym c.self.view_is) leads in
    let plans : IsPlan (base_of s q) r is_rebuilt plan = subst (λ (x : State). IsPlan (base_of x q) r is_rebuilt plan) (sym c.self.view_is) (c.in_ok-plan.ensures.plan e r is_rebuilt leads) in
    c.plans_are_committed.ensures.allowed (base_of s q) r is_rebuilt plan c.reserve-2.new.classes a.pool c.reserve-3.new.self c.reserve-2.new.adverts (planned_of s e r is_rebuilt q plan here plans)
    (parts_of s q plan c.reserve-2.new.classes a.pool c.reserve-3.new.self c.reserve-2.new.adverts a.programs.items c.self.invariant.kept c.in_ok-plan.ensures.named (sym c.reserve-2.ensures.tag) (sym c.reserve-2.ensures.kept) (sym c.reserve-3.ensures.table) (sym c.reserve-3.ensures.capacity)
    (sym c.reserve-2.ensures.told) (sym (c.reserve-2.ensures.present ∙ c.self.invariant.present)))
    (record { prefixes = c.in_ok-reserve-2.ensures.prefixes; tags = c.in_ok-reserve-2.ensures.tags; pairs = omega (arith, c.in_ok-reserve-3.ensures.room); offers = c.in_ok-reserve-2.ensures.offers })

pub carry_out-requires : goal.carry_out-requires
carry_out-requires g c =
    let q = c.args.request in
    let a = c.self.inside in
    let s : State = state_of a.phase a.base a.size a.registry a.server a.resolved.items a.classes a.adverts.told a.switch a.programs.items in
    let e = c.requires.0 in
    let r = c.requires.2 in
    let is_rebuilt = c.requires.3 in
    let here : Leads s e r is_rebuilt q = subst (λ (x : State). Leads x e r is_rebuilt q) (sym c.self.view_is) c.requires.4 in
    change_placed s a.pool a.programs.items q c.self.invariant.kept refl here.placed

pub invariant_of-self-2 : goal.invariant_of-self-2
invariant_of-self-2 g c =
    let q = c.args.request in
    let a = c.self.inside in
    let s : State = state_of a.phase a.base a.size a.registry a.server a.resolved.items a.classes a.adverts.told a.switch a.programs.items in
    let e = c.requires.0 in
    let r = c.requires.2 in
    let is_rebuilt = c.requires.3 in
    let leads = c.requires.4 in
    let plan = c.in_ok-plan.plan in
    let here : Leads s e r is_rebuilt q = subst (λ (x : State). Leads x e r is_rebuilt q) (sym c.self.view_is) leads in
    let plans : IsPlan (base_of s q) r is_rebuilt plan = subst (λ (x : State). IsPlan (base_of x q) r is_rebuilt plan) (sym c.self.view_is) (c.in_ok-plan.ensures.plan e r is_rebuilt leads) in
    let to = c.plans_are_committed.ensures.reached (base_of s q) r is_rebuilt plan c.reserve-2.new.classes a.pool c.reserve-3.new.self c.reserve-2.new.adverts (planned_of s e r is_rebuilt q plan here plans)
    (parts_of s q plan c.reserve-2.new.classes a.pool c.reserve-3.new.self c.reserve-2.new.adverts a.programs.items c.self.invariant.kept c.in_ok-plan.ensures.named (sym c.reserve-2.ensures.tag) (sym c.reserve-2.ensures.kept) (sym c.reserve-3.ensures.table) (sym c.reserve-3.ensures.capacity)
    (sym c.reserve-2.ensures.told) (sym (c.reserve-2.ensures.present ∙ c.self.invariant.present))) in
    let done = c.commit-changes.ensures in
    let routes = c.commit.ensures.routes r.routes (subst (λ m. Reaches q.proposal.changes m r.routes) (sym c.reserve.ensures.routes) here.proposes.routes) in
    let rules = c.commit.ensures.rules ∙ ap (unwrap_or q.proposal.rules) c.reserve.ensures.rules ∙ here.proposes.rules in
    let named = c.commit.ensures.named ∙ ap (named_with q.proposal.named) c.reserve.ensures.named ∙ here.named in
    let then = state_then a.phase a.base a.size a.registry a.server a.resolved.items a.classes a.adverts.told a.switch a.programs.items r q plan c.commit.new.self c.commit-changes.new.classes c.commit-changes.new.adverts.told c.commit-changes.new.switch c.carry_out.new.programs.items
    here.alike routes rules named c.carry_out.ensures (done.tag ∙ to.tag) (done.kept ∙ to.kept) (done.told ∙ c.reserve-2.ensures.told) (done.table ∙ to.table) (done.capacity ∙ c.reserve-3.ensures.capacity) in
    record {
      kept = committed_kept c.plans_are_committed.ensures.replied s e r is_rebuilt q plan c.changes_reply.result _ a.pool a.programs.items c.self.invariant.kept c.requires.1 here plans (says c.changes_reply.result c.commit-changes.result plan c.changes_reply.ensures done.changes) then
          c.reserve-2.new.classes c.reserve-3.new.self c.reserve-2.new.adverts to c.commit-changes.new.pool done.pool c.carry_out.new.programs.items c.carry_out.ensures;
      present = done.present ∙ to.present ∙ ap all_present (sym then);
    }

pub returns-clause-step : goal.returns-clause-step
returns-clause-step g c = λ e r is_rebuilt formed leads.
    let q = c.args.request in
    let a = c.self.inside in
    let s : State = state_of a.phase a.base a.size a.registry a.server a.resolved.items a.classes a.adverts.told a.switch a.programs.items in
    let plan = c.in_ok-plan.plan in
    let here : Leads s e r is_rebuilt q = subst (λ (x : State). Leads x e r is_rebuilt q) (sym c.self.view_is) leads in
    let plans : IsPlan (base_of s q) r is_rebuilt plan = subst (λ (x : State). IsPlan (base_of x q) r is_rebuilt plan) (sym c.self.view_is) (c.in_ok-plan.ensures.plan e r is_rebuilt leads) in
    let to = c.plans_are_committed.ensures.reached (base_of s q) r is_rebuilt plan c.reserve-2.new.classes a.pool c.reserve-3.new.self c.reserve-2.new.adverts (planned_of s e r is_rebuilt q plan here plans)
    (parts_of s q plan c.reserve-2.new.classes a.pool c.reserve-3.new.self c.reserve-2.new.adverts a.programs.items c.self.invariant.kept c.in_ok-plan.ensures.named (sym c.reserve-2.ensures.tag) (sym c.reserve-2.ensures.kept) (sym c.reserve-3.ensures.table) (sym c.reserve-3.ensures.capacity)
    (sym c.reserve-2.ensures.told) (sym (c.reserve-2.ensures.present ∙ c.self.invariant.present))) in
    let done = c.commit-changes.ensures in
    let routes = c.commit.ensures.routes r.routes (subst (λ m. Reaches q.proposal.changes m r.routes) (sym c.reserve.ensures.routes) here.proposes.routes) in
    let rules = c.commit.ensures.rules ∙ ap (unwrap_or q.proposal.rules) c.reserve.ensures.rules ∙ here.proposes.rules in
    let named = c.commit.ensures.named ∙ ap (named_with q.proposal.named) c.reserve.ensures.named ∙ here.named in
    let then = state_then a.phase a.base a.size a.registry a.server a.resolved.items a.classes a.adverts.told a.switch a.programs.items r q plan c.commit.new.self c.commit-changes.new.classes c.commit-changes.new.adverts.told c.commit-changes.new.switch c.carry_out.new.programs.items
    here.alike routes rules named c.carry_out.ensures (done.tag ∙ to.tag) (done.kept ∙ to.kept) (done.told ∙ c.reserve-2.ensures.told) (done.table ∙ to.table) (done.capacity ∙ c.reserve-3.ensures.capacity) in
    let s' : State = state_of Running a.base a.size a.registry c.commit.new.self a.resolved.items c.commit-changes.new.classes c.commit-changes.new.adverts.told c.commit-changes.new.switch c.carry_out.new.programs.items in
    subst (λ (x : State). IsStep x e c.changes_reply.result s') c.self.view_is
    (committed_step c.plans_are_committed.ensures.replied s e r is_rebuilt q plan c.changes_reply.result s' a.pool a.programs.items c.self.invariant.kept formed here plans (says c.changes_reply.result c.commit-changes.result plan c.changes_reply.ensures done.changes) then)

pub tell_job-requires-clause-few : goal.tell_job-requires-clause-few
tell_job-requires-clause-few g c = λ stays.
    let q = c.args.request in
    let a = c.self.inside in
    let s : State = state_of a.phase a.base a.size a.registry a.server a.resolved.items a.classes a.adverts.told a.switch a.programs.items in
    let plan = c.in_ok-plan.plan in
    let here : Leads s c.requires.0 c.requires.2 c.requires.3 q = subst (λ (x : State). Leads x c.requires.0 c.requires.2 c.requires.3 q) (sym c.self.view_is) c.requires.4 in
    let plans : IsPlan (base_of s q) c.requires.2 c.requires.3 plan = subst (λ (x : State). IsPlan (base_of x q) c.requires.2 c.requires.3 plan) (sym c.self.view_is) (c.in_ok-plan.ensures.plan c.requires.0 c.requires.2 c.requires.3 c.requires.4) in
    few_added s c.requires.0 c.requires.2 c.requires.3 q plan here plans stays c.added_are_few.ensures c.self.invariant.kept.steady

pub tell_job-requires-clause-rising : goal.tell_job-requires-clause-rising
tell_job-requires-clause-rising g c = (c.in_ok-plan.ensures.plan c.requires.0 c.requires.2 c.requires.3 c.requires.4).gone.rising

pub returns-clause-job : goal.returns-clause-job
returns-clause-job g c = λ e r is_rebuilt formed leads.
    let q = c.args.request in
    let a = c.self.inside in
    let s : State = state_of a.phase a.base a.size a.registry a.server a.resolved.items a.classes a.adverts.told a.switch a.programs.items in
    let plan = c.in_ok-plan.plan in
    let here : Leads s e r is_rebuilt q = subst (λ (x : State). Leads x e r is_rebuilt q) (sym c.self.view_is) leads in
    let plans : IsPlan (base_of s q) r is_rebuilt plan = subst (λ (x : State). IsPlan (base_of x q) r is_rebuilt plan) (sym c.self.view_is) (c.in_ok-plan.ensures.plan e r is_rebuilt leads) in
    let told = subst (λ tags. IsTold (length s.routing.ports) tags s.table q.change plan c.args.job.now c.tell_job.new.job) c.reserve-2.ensures.tag
    (subst (λ table. IsTold (length s.routing.ports) c.reserve-2.new.classes.tag table q.change plan c.args.job.now c.tell_job.new.job) c.reserve-3.ensures.table c.in_ok-tell_job.ensures.told) in
    subst (λ (x : State). KeepsJob x e c.changes_reply.result c.args.job.now c.tell_job.new.job) c.self.view_is
    (told_keeps s e r is_rebuilt q plan here plans c.reroutings_keep_jobs.ensures c.policies_keep_jobs.ensures c.no_jobs_start.ensures c.self.invariant.kept.steady formed c.changes_reply.result
    (says c.changes_reply.result c.commit-changes.result plan c.changes_reply.ensures c.commit-changes.ensures.changes) c.args.job.now c.tell_job.new.job told)

pub returns-in_err-reserve-3-clause-unchanged : goal.returns-in_err-reserve-3-clause-unchanged
returns-in_err-reserve-3-clause-unchanged g c =
    let a = c.self.inside in
    err_here c.from_residual-in_err-reserve-3.result (same_state a.phase a.base a.size a.registry a.server c.reserve.new.self a.resolved.items a.classes c.reserve-2.new.classes a.adverts.told c.reserve-2.new.adverts.told a.switch c.reserve-3.new.self a.programs.items
    c.reserve.ensures.routes c.reserve.ensures.rules c.reserve.ensures.named c.reserve-2.ensures.tag c.reserve-2.ensures.kept c.reserve-2.ensures.told c.reserve-3.ensures.table c.reserve-3.ensures.capacity ∙ c.self.view_is)

pub returns-in_err-tell_job-clause-unchanged : goal.returns-in_err-tell_job-clause-unchanged
returns-in_err-tell_job-clause-unchanged g c =
    let a = c.self.inside in
    err_here c.from_residual-in_err-tell_job.result (same_state a.phase a.base a.size a.registry a.server c.reserve.new.self a.resolved.items a.classes c.reserve-2.new.classes a.adverts.told c.reserve-2.new.adverts.told a.switch c.reserve-3.new.self a.programs.items
    c.reserve.ensures.routes c.reserve.ensures.rules c.reserve.ensures.named c.reserve-2.ensures.tag c.reserve-2.ensures.kept c.reserve-2.ensures.told c.reserve-3.ensures.table c.reserve-3.ensures.capacity ∙ c.self.view_is)

pub invariant_of-self-in_err-tell_job : goal.invariant_of-self-in_err-tell_job
invariant_of-self-in_err-tell_job g c =
    let a = c.self.inside in
    let same = same_state a.phase a.base a.size a.registry a.server c.reserve.new.self a.resolved.items a.classes c.reserve-2.new.classes a.adverts.told c.reserve-2.new.adverts.told a.switch c.reserve-3.new.self a.programs.items
    c.reserve.ensures.routes c.reserve.ensures.rules c.reserve.ensures.named c.reserve-2.ensures.tag c.reserve-2.ensures.kept c.reserve-2.ensures.told c.reserve-3.ensures.table c.reserve-3.ensures.capacity in
    record {
      kept = subst (λ (x : State). IsKept x a.pool a.programs.items) (sym same) c.self.invariant.kept;
      present = c.reserve-2.ensures.present ∙ c.self.invariant.present ∙ ap all_present (sym same);
    }

pub returns-in_err-reserve-clause-stop : goal.returns-in_err-reserve-clause-stop
returns-in_err-reserve-clause-stop g c = memory_stops c.args.self.now c.args.request c.from_residual-in_err-reserve.result c.from_residual-in_err-reserve.ensures.1

pub returns-in_err-reserve-2-clause-stop : goal.returns-in_err-reserve-2-clause-stop
returns-in_err-reserve-2-clause-stop g c = memory_stops c.args.self.now c.args.request c.from_residual-in_err-reserve-2.result c.from_residual-in_err-reserve-2.ensures.1

pub returns-in_err-reserve-3-clause-stop : goal.returns-in_err-reserve-3-clause-stop
returns-in_err-reserve-3-clause-stop g c = memory_stops c.args.self.now c.args.request c.from_residual-in_err-reserve-3.result c.from_residual-in_err-reserve-3.ensures.1

pub returns-in_err-tell_job-clause-stop : goal.returns-in_err-tell_job-clause-stop
returns-in_err-tell_job-clause-stop g c = memory_stops c.args.self.now c.args.request c.from_residual-in_err-tell_job.result c.from_residual-in_err-tell_job.ensures.1
