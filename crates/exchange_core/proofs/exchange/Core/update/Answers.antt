use Rattle.std.proofs.Common.{◌<◌, ap, length, subst, sym, ◌∙◌, refl}
use Rattle.std.specs.Prelude.{List, ℕ}
use Rattle.events.specs.After.{with_update}
use Rattle.events.specs.Fits.{none_rebuilt}
use Rattle.events.specs.Refusals.{tags_refusal}
use Rattle.events.specs.State.{State}
use Rattle.events.specs.declared.Event.TheVariants.{Update}
use Rattle.net_types.specs.UpdateReading.{decoded}
use Rattle.exchange_core.specs.Building.{Asks}
use Rattle.exchange_core.specs.Changing.{IsSender, Reroutes}
use Rattle.exchange_core.specs.Stops.{IsStop, route_stop, update_stop}
use Rattle.exchange_core.specs.View.{state_of}
use Rattle.exchange_core.proofs.Asked.{fault_first, none_refused, update_leads, update_misread, update_stops}
use Rattle.exchange_core.proofs.Senders.{routes_declared}
use Rattle.exchange_core.proofs.Stops.{returned}
use Rattle.exchange_core.proofs.exchange.Core.update.Goals as goal

pub returns-in_err-update : goal.returns-in_err-update
returns-in_err-update c =
    let fault = c.in_err-update.field-0.0 in
    let was = c.in_err-update.was in
    returned (λ r. (name : List ℕ) → IsSender c.args.self.now name c.args.who → Asks c.args.self.now (Update name c.args.bytes.now) r) c.from_residual.result (update_stop fault) c.from_residual.ensures.1
    (λ name sender. update_misread c.args.self.now name c.args.who sender c.args.bytes.now fault (λ f e. sym (ap decoded c.items.ensures) ∙ c.decode.ensures.cause f (cc)))

pub propose_update-requires-clause-known : goal.propose_update-requires-clause-known
propose_update-requires-clause-known c = subst (λ (x : State). c.args.who.0 < length x.routing.participants) (sym c.self.view_is) c.requires

pub propose_update-requires-clause-declared : goal.propose_update-requires-clause-declared
propose_update-requires-clause-declared c =
    let a = c.self.inside in
    let s : State = state_of a.phase a.base a.size a.registry a.server a.resolved.items a.classes a.adverts.told a.switch a.programs.items in
    routes_declared a.registry s.routing refl c.self.invariant.kept.steady.routed

pub returns-in_err-proposal : goal.returns-in_err-proposal
returns-in_err-proposal c =
    let a = c.self.inside in
    let s : State = state_of a.phase a.base a.size a.registry a.server a.resolved.items a.classes a.adverts.told a.switch a.programs.items in
    let who = c.args.who in
    let u = c.in_ok-update.update in
    let fault = c.in_err-proposal.field-0.0 in
    let was = c.in_err-proposal.was in
    let read = sym (ap decoded c.items.ensures) ∙ c.in_ok-update.ensures.value in
    returned (λ r. (name : List ℕ) → IsSender c.args.self.now name who → Asks c.args.self.now (Update name c.args.bytes.now) r) c.from_residual-in_err-proposal.result (route_stop fault) c.from_residual-in_err-proposal.ensures.1
    (subst (λ (x : State). (name : List ℕ) → IsSender x name who → IsStop x (Update name c.args.bytes.now) (route_stop fault)) c.self.view_is (λ name sender.
    update_stops s name who sender c.args.bytes.now u (route_stop fault) read
    (fault_first s a.registry who refl (λ ip. refl) u fault (tags_refusal s (with_update s.routing who u)) (λ e. c.propose_update.ensures.first_as.0 (cc)) (λ e. c.propose_update.ensures.next_hop.0 (cc)) (λ e. c.propose_update.ensures.oversize.0 (cc)))))

pub returns : goal.returns
returns c = λ name sender.
    let a = c.self.inside in
    let s : State = state_of a.phase a.base a.size a.registry a.server a.resolved.items a.classes a.adverts.told a.switch a.programs.items in
    let who = c.args.who in
    let u = c.in_ok-update.update in
    let p = c.in_ok-proposal.proposal in
    let here : IsSender s name who = subst (λ (x : State). IsSender x name who) (sym c.self.view_is) sender in
    let read = sym (ap decoded c.items.ensures) ∙ c.in_ok-update.ensures.value in
    let none = none_refused s a.registry who refl (λ ip. refl) u (λ e. let bad = c.in_ok-proposal.ensures.first_as.1 e in cc)
    (λ e. let bad = c.in_ok-proposal.ensures.next_hop.1 e in cc) (λ e. let bad = c.in_ok-proposal.ensures.oversize.1 e in cc) in
    let r = with_update s.routing who u in (
      r,
      none_rebuilt,
      c.rerouted.ensures (Update name c.args.bytes.now) r (subst (λ (x : State). Reroutes x (Update name c.args.bytes.now) r p) c.self.view_is
          (update_leads s name who here c.args.bytes.now u p read none c.in_ok-proposal.ensures.proposal c.in_ok-proposal.ensures.named)),
    )
