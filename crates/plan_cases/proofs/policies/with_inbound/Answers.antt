use Rattle.std.proofs.Common.{◌≡◌, ◌∙◌, ap, refl}
use Rattle.std.specs.Prelude.{slice_set}
use Rattle.plan_cases.proofs.TextLists.{set_other, set_same}
use Rattle.plan_cases.specs.Policies.{inbound_texts, outbound_texts}
use Rattle.plan_cases.specs.declared.policies.Texts.{Texts}
use Rattle.plan_cases.proofs.policies.with_inbound.Goals as goal

pub returns-clause-outbound : goal.returns-clause-outbound
returns-clause-outbound c =
    set_same (λ (t : Texts). t.outbound) c.in_ok-others.others.items c.args.who.0 c.index_mut.result.now (record { outbound = c.index_mut.result.now.outbound; inbound = c.from_vec.result }) refl c.index_mut.ensures.value
    ∙ ap outbound_texts c.in_ok-others.ensures

pub returns-clause-inbound : goal.returns-clause-inbound
returns-clause-inbound c =
    let text : c.from_vec.result ≡ c.args.text.now = c.from_vec.ensures ∙ c.in_ok-from_slice.ensures.items ∙ c.as_bytes.ensures.value in
    set_other (λ (t : Texts). t.inbound) c.in_ok-others.others.items c.args.who.0 (record { outbound = c.index_mut.result.now.outbound; inbound = c.from_vec.result })
    ∙ (λ i. slice_set (inbound_texts (c.in_ok-others.ensures i)) c.args.who.0 (text i))
