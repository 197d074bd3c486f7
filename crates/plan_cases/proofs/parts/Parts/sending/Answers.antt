use Rattle.std.proofs.Common.{◌<◌, ap, subst, sym, ◌∙◌, length}
use Rattle.std.specs.Prelude.{slice_set}
use Rattle.std.proofs.lemmas.List.{length-map}
use Rattle.events.specs.State.{State}
use Rattle.plan_cases.proofs.Plans.{routes_declared, sending_asks}
use Rattle.plan_cases.specs.Parts.{AreAsked, state_of}
use Rattle.plan_cases.specs.Policies.{inbound_texts, outbound_texts}
use Rattle.plan_cases.specs.declared.policies.Texts.{Texts}
use Rattle.plan_cases.specs.declared.request.Request.{Request}
use Rattle.policy_syntax.specs.Views.{policy_of}
use Rattle.plan_cases.proofs.parts.Parts.sending.Goals as goal

pub propose_named-requires : goal.propose_named-requires
propose_named-requires c = let a = c.self.inside in routes_declared a.registry a.server c.self.invariant.owned

pub with_outbound-requires : goal.with_outbound-requires
with_outbound-requires c =
    let a = c.self.inside in
    let below : c.args.who.0 < length (outbound_texts a.policies.items) = subst (λ (x : State). c.args.who.0 < length x.outbound) (sym c.self.view_is) c.requires in
    subst (λ n. c.args.who.0 < n) (length-map a.policies.items (λ (t : Texts). t.outbound) ∙ ap length (sym c.deref.ensures.value)) below

pub returns : goal.returns
returns c =
    let a = c.self.inside in
    let s : State = state_of a.registry a.server a.classes a.pool a.adverts.told a.switch a.policies.items in
    let q : Request = record { proposal = c.in_ok-proposal.proposal; rebuild = c.in_ok-rebuild.rebuild; texts = c.in_ok-texts.texts } in
    subst (λ (x : State). AreAsked x q) c.self.view_is
    (sending_asks s q c.args.who c.args.text.now (policy_of c.in_ok-tree.tree) c.in_ok-named.named c.self.invariant.base c.in_ok-tree.ensures c.in_ok-proposal.ensures.named c.in_ok-proposal.ensures.proposal c.in_ok-rebuild.ensures
    (c.in_ok-texts.ensures.outbound ∙ ap (λ ts. slice_set (outbound_texts ts) c.args.who.0 c.args.text.now) c.deref.ensures.value) (c.in_ok-texts.ensures.inbound ∙ ap inbound_texts c.deref.ensures.value))
