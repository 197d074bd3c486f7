use Rattle.std.proofs.Common.{ap, ◌∙◌}
use Rattle.events.specs.State.{State, port_of}
use Rattle.events.specs.declared.Event.TheVariants.{Frame}
use Rattle.exchange_core.proofs.Lists.{frame_kept, frame_step}
use Rattle.exchange_core.specs.Placed.{is_declared}
use Rattle.exchange_core.proofs.Steps.{step_from}
use Rattle.exchange_core.proofs.exchange.Core.frame.Goals as goal

pub invariant_of-self : goal.invariant_of-self
invariant_of-self c = record {
  kept = frame_kept c.self.invariant.kept (ap (λ (x : State). is_declared x.phase) c.self.view_is ∙ c.requires.ready) c.args.source.number c.args.bytes.now c.args.source c.requires.formed (ap (λ (x : State). port_of x c.args.source.number) c.self.view_is ∙ c.requires.known);
  present = c.self.invariant.present;
}

pub returns-clause-step : goal.returns-clause-step
returns-clause-step c =
    let plain = c.bare_reply-reply.ensures in
    step_from _ c.args.self.now (Frame c.args.source.number c.args.bytes.now) _ _ c.self.view_is
    (frame_step c.self.invariant.kept (ap (λ (x : State). is_declared x.phase) c.self.view_is ∙ c.requires.ready) c.args.source.number c.args.bytes.now c.args.source c.requires.formed (ap (λ (x : State). port_of x c.args.source.number) c.self.view_is ∙ c.requires.known)
    _ (λ i. record (plain i) { frames = (rw (c.items.ensures) at c.in_ok-frames.ensures) i }))
