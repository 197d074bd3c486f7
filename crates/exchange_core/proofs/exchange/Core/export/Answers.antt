use Rattle.std.proofs.Common.{◌<◌, ap, length, subst, sym, ◌∙◌, refl, arith}
use Rattle.std.specs.Prelude.{List, ℕ}
use Rattle.events.proofs.Reached.{declared_pid}
use Rattle.events.specs.After.{with_rules}
use Rattle.events.specs.Fits.{none_rebuilt}
use Rattle.events.specs.State.{State}
use Rattle.events.specs.declared.Event.TheVariants.{Export}
use Rattle.route_server.specs.Proposed.{IsProposal}
use Rattle.exchange_core.specs.Building.{Asks}
use Rattle.exchange_core.specs.Changing.{IsSender, Reroutes, rules_or_refusal}
use Rattle.exchange_core.specs.View.{state_of}
use Rattle.exchange_core.proofs.Asked.{export_leads, export_stops}
use Rattle.exchange_core.proofs.Senders.{routes_declared}
use Rattle.exchange_core.proofs.Stops.{returned}
use Rattle.exchange_core.proofs.exchange.Core.export.Goals as goal

pub returns-in_err-rules : goal.returns-in_err-rules
returns-in_err-rules c =
    let st : State = c.args.self.now in
    let stop = c.in_err-rules.field-0.0 in
    returned (λ r. (name : List ℕ) → IsSender st name c.args.who → Asks st (Export name c.args.text.now) r) c.from_residual.result stop c.from_residual.ensures.1
    (λ name sender. export_stops st name c.args.who sender c.args.text.now stop c.in_err-rules.ensures)

pub propose_rules-requires : goal.propose_rules-requires
propose_rules-requires c =
    let a = c.self.inside in
    let s : State = state_of a.phase a.base a.size a.registry a.server a.resolved.items a.classes a.adverts.told a.switch a.programs.items in
    routes_declared a.registry s.routing refl c.self.invariant.kept.steady.routed

pub returns : goal.returns
returns c = λ name sender.
    let a = c.self.inside in
    let s : State = state_of a.phase a.base a.size a.registry a.server a.resolved.items a.classes a.adverts.told a.switch a.programs.items in
    let who = c.args.who in
    let p = c.in_ok-proposal.proposal in
    let rules = c.in_ok-rules.rules in
    let here : IsSender s name who = subst (λ (x : State). IsSender x name who) (sym c.self.view_is) sender in
    let below : who.0 < length s.routing.participants = declared_pid s.routing name who here.known in
    let all = c.self.invariant.kept.steady.rules in
    let listed : who.0 < length a.server.rules = omega (arith, below, all) in
    let r = with_rules s.routing who rules in (
      r,
      none_rebuilt,
      c.rerouted.ensures (Export name c.args.text.now) r (subst (λ (x : State). Reroutes x (Export name c.args.text.now) r p) c.self.view_is
          (export_leads s name who here c.args.text.now rules p (ap (λ (x : State). rules_or_refusal x.routing c.args.text.now) c.self.view_is ∙ c.in_ok-rules.ensures)
          (subst (λ xs. IsProposal s.routing (record s.routing { rules = xs }) p) (c.in_ok-proposal.ensures.listed listed) c.in_ok-proposal.ensures.proposal) c.in_ok-proposal.ensures.named)),
    )
