use Rattle.std.proofs.Common.{subst, sym, refl}
use Rattle.events.specs.After.{without_from}
use Rattle.events.specs.Fits.{none_rebuilt}
use Rattle.events.specs.State.{State}
use Rattle.events.specs.declared.Event.TheVariants.{Down}
use Rattle.exchange_core.specs.Changing.{IsSender, Reroutes}
use Rattle.exchange_core.specs.View.{state_of}
use Rattle.exchange_core.proofs.Asked.{down_leads}
use Rattle.exchange_core.proofs.Senders.{routes_declared}
use Rattle.exchange_core.proofs.exchange.Core.down.Goals as goal

pub propose_down-requires : goal.propose_down-requires
propose_down-requires c =
    let a = c.self.inside in
    let s : State = state_of a.phase a.base a.size a.registry a.server a.resolved.items a.classes a.adverts.told a.switch a.programs.items in
    routes_declared a.registry s.routing refl c.self.invariant.kept.steady.routed

pub returns : goal.returns
returns c = λ name sender.
    let a = c.self.inside in
    let s : State = state_of a.phase a.base a.size a.registry a.server a.resolved.items a.classes a.adverts.told a.switch a.programs.items in
    let who = c.args.who in
    let p = c.in_ok-proposal.proposal in
    let here : IsSender s name who = subst (λ (x : State). IsSender x name who) (sym c.self.view_is) sender in
    let r = without_from s.routing who in (
      r,
      none_rebuilt,
      c.rerouted.ensures (Down name) r (subst (λ (x : State). Reroutes x (Down name) r p) c.self.view_is (down_leads s name who here p c.in_ok-proposal.ensures.proposal c.in_ok-proposal.ensures.named)),
    )
