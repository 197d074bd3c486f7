use Rattle.std.proofs.Common.{◌++◌, drop, sym, ◌∙◌}
use Rattle.std.proofs.lemmas.List.{with_items_is}
use Rattle.events.specs.State.{State}
use Rattle.exchange_core.proofs.Sending.{sent_at, still_read}
use Rattle.exchange_core.specs.View.{state_of}
use Rattle.exchange_core.proofs.exchange.Core.sent.Goals as goal

pub forward_read-requires : goal.forward_read-requires
forward_read-requires c =
    rw c.as_slice.ensures.value
    (still_read c.args.source.now.number c.args.tag c.args.frame.items _ c.args.fields.now c.requires.whole c.requires.read
    (with_items_is c.args.frame c.readdress.new.frame (c.readdress.auto.frame ∙ c.as_mut_slice.ensures.len) ∙ c.readdress.ensures ∙ (λ i. c.vmac.ensures i ++ drop 6 (c.as_mut_slice.ensures.value i))))

pub returns : goal.returns
returns c =
    let a = c.self.inside in
    let s : State = state_of a.phase a.base a.size a.registry a.server a.resolved.items a.classes a.adverts.told a.switch a.programs.items in
    sent_at s c.args.self.now c.self.view_is c.args.source.now c.args.tag c.args.frame.items _ c.args.fields.now c.bare_reply-reply.result c.in_ok-reply.field-0 c.bare_reply-reply.ensures
    (sym c.has_resolved.ensures ∙ c.if-not-has_resolved.false)
    (with_items_is c.args.frame c.readdress.new.frame (c.readdress.auto.frame ∙ c.as_mut_slice.ensures.len) ∙ c.readdress.ensures ∙ (λ i. c.vmac.ensures i ++ drop 6 (c.as_mut_slice.ensures.value i)))
    c.requires.read
    (rw (c.as_slice.ensures.value) at c.in_ok-reply.ensures)
