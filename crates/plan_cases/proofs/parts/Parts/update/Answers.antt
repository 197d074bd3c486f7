use Rattle.std.proofs.Common.{refl, subst}
use Rattle.events.specs.State.{State}
use Rattle.plan_cases.proofs.Plans.{reroutes, routes_declared}
use Rattle.plan_cases.specs.Parts.{Reroutes, state_of}
use Rattle.plan_cases.proofs.parts.Parts.update.Goals as goal

pub propose_update-requires-clause-declared : goal.propose_update-requires-clause-declared
propose_update-requires-clause-declared g c = let a = c.self.inside in routes_declared a.registry a.server c.self.invariant.owned

pub rerouting-requires : goal.rerouting-requires
rerouting-requires g c =
    let a = c.self.inside in
    let s : State = state_of a.registry a.server a.classes a.pool a.adverts.told a.switch a.policies.items in
    subst (λ (x : State). Reroutes x c.in-Ok-propose_update.proposal) c.self.view_is
    (reroutes s _ c.in-Ok-propose_update.proposal refl refl c.in-Ok-propose_update.ensures.proposal c.in-Ok-propose_update.ensures.named)
