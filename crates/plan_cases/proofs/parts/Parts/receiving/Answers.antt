use Rattle.std.proofs.Common.{◌<◌, ap, subst, sym, ◌∙◌, length}
use Rattle.std.specs.Prelude.{slice_set}
use Rattle.std.proofs.lemmas.List.{length-map}
use Rattle.events.specs.State.{State}
use Rattle.plan_cases.proofs.Plans.{receiving_asks}
use Rattle.plan_cases.specs.Parts.{AreAsked, state_of}
use Rattle.plan_cases.specs.Policies.{inbound_texts, outbound_texts}
use Rattle.plan_cases.specs.declared.policies.Texts.{Texts}
use Rattle.plan_cases.specs.declared.request.Request.{Request}
use Rattle.policy_syntax.specs.Views.{policy_of}
use Rattle.plan_cases.proofs.parts.Parts.receiving.Goals as goal

pub with_inbound-requires : goal.with_inbound-requires
with_inbound-requires c =
    let a = c.self.inside in
    let below : c.args.who.0 < length (inbound_texts a.policies.items) = subst (λ (x : State). c.args.who.0 < length x.inbound) (sym c.self.view_is) c.requires in
    subst (λ n. c.args.who.0 < n) (length-map a.policies.items (λ (t : Texts). t.inbound) ∙ ap length (sym c.deref.ensures.value)) below

pub returns : goal.returns
returns c =
    let a = c.self.inside in
    let s : State = state_of a.registry a.server a.classes a.pool a.adverts.told a.switch a.policies.items in
    let q : Request = record { proposal = c.empty.result; rebuild = c.in_ok-rebuild.rebuild; texts = c.in_ok-texts.texts } in
    subst (λ (x : State). AreAsked x q) c.self.view_is
    (receiving_asks s q c.args.who c.args.text.now (policy_of c.in_ok-_tree._tree) c.self.invariant.base c.in_ok-_tree.ensures c.empty.ensures c.in_ok-rebuild.ensures
    (c.in_ok-texts.ensures.outbound ∙ ap outbound_texts c.deref.ensures.value) (c.in_ok-texts.ensures.inbound ∙ ap (λ ts. slice_set (inbound_texts ts) c.args.who.0 c.args.text.now) c.deref.ensures.value))
