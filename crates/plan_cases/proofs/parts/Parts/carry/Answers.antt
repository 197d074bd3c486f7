use Rattle.std.proofs.Common.{arith, sym, ap, subst, ◌∙◌}
use Rattle.std.specs.Prelude.{unwrap_or}
use Rattle.events.specs.State.{State}
use Rattle.route_server.specs.Proposed.{named_with}
use Rattle.route_server.specs.Served.{Reaches}
use Rattle.plan_cases.proofs.Plans.{parts_of, planned_of, then_kept}
use Rattle.plan_cases.specs.Parts.{ArePlanned, base_of, state_of}
use Rattle.plan_cases.proofs.parts.Parts.carry.Goals as goal

pub reserve-requires-2-clause-known : goal.reserve-requires-2-clause-known
reserve-requires-2-clause-known c =
    let a = c.self.inside in
    let q = c.args.request in
    let s : State = state_of a.registry a.server a.classes a.pool a.adverts.told a.switch a.policies.items in
    let for = subst (λ (x : State). ArePlanned x q c.args.plan) (sym c.self.view_is) c.requires in
    c.plans_are_committed.ensures.known (base_of s q) for.0 for.1 c.args.plan
    (planned_of a.registry a.server a.classes a.pool a.adverts.told a.switch a.policies.items a.adverts.present c.self.invariant for.0 for.1 q c.args.plan for.2 for.3 for.4)

pub commit-changes-requires : goal.commit-changes-requires
commit-changes-requires c =
    let a = c.self.inside in
    let q = c.args.request in
    let s : State = state_of a.registry a.server a.classes a.pool a.adverts.told a.switch a.policies.items in
    let for = subst (λ (x : State). ArePlanned x q c.args.plan) (sym c.self.view_is) c.requires in
    c.plans_are_committed.ensures.allowed (base_of s q) for.0 for.1 c.args.plan c.reserve-2.new.classes a.pool c.reserve-3.new.self c.reserve-2.new.adverts
    (planned_of a.registry a.server a.classes a.pool a.adverts.told a.switch a.policies.items a.adverts.present c.self.invariant for.0 for.1 q c.args.plan for.2 for.3 for.4)
    (parts_of a.registry a.server a.classes a.pool a.adverts.told a.switch a.policies.items a.adverts.present c.self.invariant for.0 for.1 q c.args.plan for.2 for.3 for.4 c.reserve-2.new.classes c.reserve-3.new.self c.reserve-2.new.adverts
    c.reserve-2.ensures.tag c.reserve-2.ensures.kept c.reserve-3.ensures.table c.reserve-3.ensures.capacity c.reserve-2.ensures.told c.reserve-2.ensures.present)
    (record { prefixes = c.in_ok-reserve-2.ensures.prefixes; tags = c.in_ok-reserve-2.ensures.tags; pairs = omega (arith, c.in_ok-reserve-3.ensures.room); offers = c.in_ok-reserve-2.ensures.offers })

pub invariant_of-self-2 : goal.invariant_of-self-2
invariant_of-self-2 c =
    let a = c.self.inside in
    let q = c.args.request in
    let s : State = state_of a.registry a.server a.classes a.pool a.adverts.told a.switch a.policies.items in
    let for = subst (λ (x : State). ArePlanned x q c.args.plan) (sym c.self.view_is) c.requires in
    let r = for.0 in
    let to = c.plans_are_committed.ensures.reached (base_of s q) r for.1 c.args.plan c.reserve-2.new.classes a.pool c.reserve-3.new.self c.reserve-2.new.adverts
    (planned_of a.registry a.server a.classes a.pool a.adverts.told a.switch a.policies.items a.adverts.present c.self.invariant r for.1 q c.args.plan for.2 for.3 for.4)
    (parts_of a.registry a.server a.classes a.pool a.adverts.told a.switch a.policies.items a.adverts.present c.self.invariant r for.1 q c.args.plan for.2 for.3 for.4 c.reserve-2.new.classes c.reserve-3.new.self c.reserve-2.new.adverts
    c.reserve-2.ensures.tag c.reserve-2.ensures.kept c.reserve-3.ensures.table c.reserve-3.ensures.capacity c.reserve-2.ensures.told c.reserve-2.ensures.present) in
    let done = c.commit-changes.ensures in
    let proposes = for.2.proposes in
    let routes = c.commit.ensures.routes r.routes (subst (λ m. Reaches q.proposal.changes m r.routes) (sym c.reserve.ensures.routes) proposes.routes) in
    let rules = c.commit.ensures.rules ∙ ap (unwrap_or q.proposal.rules) c.reserve.ensures.rules ∙ proposes.rules in
    let named = c.commit.ensures.named ∙ ap (named_with q.proposal.named) c.reserve.ensures.named ∙ for.2.named in
    then_kept a.registry a.server a.classes a.pool a.adverts.told a.switch a.policies.items a.adverts.present c.self.invariant r for.1 q c.args.plan for.2 for.3 for.4
    c.commit.new.self c.commit-changes.new.classes c.commit-changes.new.pool c.commit-changes.new.adverts.told c.commit-changes.new.switch c.commit-changes.new.adverts.present routes rules named
    c.reserve-2.new.classes c.reserve-3.new.self c.reserve-2.new.adverts to (done.tag ∙ to.tag) (done.kept ∙ to.kept) done.pool (done.table ∙ to.table) (done.capacity ∙ c.reserve-3.ensures.capacity) (done.told ∙ c.reserve-2.ensures.told) (done.present ∙ to.present)
