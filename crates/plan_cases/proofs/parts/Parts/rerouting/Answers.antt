use Rattle.std.proofs.Common.{ap, subst, sym, ◌∙◌}
use Rattle.events.specs.State.{State}
use Rattle.plan_cases.proofs.Plans.{rerouting_asks}
use Rattle.plan_cases.specs.Parts.{AreAsked, Reroutes, state_of}
use Rattle.plan_cases.specs.Policies.{inbound_texts, outbound_texts}
use Rattle.plan_cases.specs.declared.request.Request.{Request}
use Rattle.plan_cases.proofs.parts.Parts.rerouting.Goals as goal

pub returns : goal.returns
returns c =
    let a = c.self.inside in
    let s : State = state_of a.registry a.server a.classes a.pool a.adverts.told a.switch a.policies.items in
    let q : Request = record { proposal = c.args.proposal; rebuild = c.new.result; texts = c.in_ok-texts.texts } in
    let texts = c.in_ok-texts.ensures ∙ c.deref.ensures.value in
    subst (λ (x : State). AreAsked x q) c.self.view_is
    (rerouting_asks s q c.self.invariant.base (subst (λ (x : State). Reroutes x c.args.proposal) (sym c.self.view_is) c.requires) c.new.ensures.items (ap outbound_texts texts) (ap inbound_texts texts))
