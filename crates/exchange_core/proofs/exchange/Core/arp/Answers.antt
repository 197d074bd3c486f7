use Rattle.std.proofs.Common.{◌≡◌, ◌<◌, length, [], ◌∷◌, ◌++◌, sym, subst, ap, ◌∙◌, arith, get_or}
use Rattle.std.specs.Prelude.{Some, None, slice_get, slice_set}
use Rattle.std.proofs.lemmas.Option.{slice_get-get_or}
use Rattle.events.specs.Resolving.{port_place}
use Rattle.events.specs.State.{State}
use Rattle.events.specs.declared.Event.TheVariants.{Arp}
use Rattle.events.specs.declared.Exchange.{Exchange}
use Rattle.net_types.specs.declared.route.PortInfo.{PortInfo}
use Rattle.exchange_core.proofs.Ports.{no_port, port_at}
use Rattle.exchange_core.proofs.Resolving.{answer_reply, arp_kept, arp_step, other_state, own_state, silent_reply, silent_state}
use Rattle.exchange_core.proofs.Steps.{step_from}
use Rattle.exchange_core.specs.Placed.{is_declared}
use Rattle.exchange_core.specs.View.{state_of}
use Rattle.exchange_core.proofs.exchange.Core.arp.Goals as goal

pub returns-in_default-clause-step : goal.returns-in_default-clause-step
returns-in_default-clause-step c = λ port formed known.
    let a = c.self.inside in
    let s : State = state_of a.phase a.base a.size a.registry a.server a.resolved.items a.classes a.adverts.told a.switch a.programs.items in
    let q : PortInfo = get_or a.registry.ports c.args.place no_port in
    let place : port_place s port ≡ Some c.args.place = ap (λ (x : State). port_place x port) c.self.view_is ∙ known in
    let here : slice_get a.registry.ports c.args.place ≡ Some q = slice_get-get_or a.registry.ports c.args.place no_port (subst (λ (x : State). c.args.place < length x.routing.ports) (sym c.self.view_is) c.requires.within) in
    let none = rw c.items.ensures at (sym c.pool_request.ensures ∙ c.in_default.is) in
    step_from s c.args.self.now (Arp port c.args.bytes.now) _ _ c.self.view_is
    (arp_step c.self.invariant.kept (ap (λ (x : State). is_declared x.phase) c.self.view_is ∙ c.requires.ready) port c.args.bytes.now q formed (port_at s port c.args.place q place here)
    c.bare_reply.result (silent_reply s c.args.bytes.now none c.bare_reply.result c.bare_reply.ensures) a.resolved.items (silent_state s c.args.bytes.now none q))

pub returns-then-not-asks_as-clause-step : goal.returns-then-not-asks_as-clause-step
returns-then-not-asks_as-clause-step c = λ port formed known.
    let a = c.self.inside in
    let s : State = state_of a.phase a.base a.size a.registry a.server a.resolved.items a.classes a.adverts.told a.switch a.programs.items in
    let q : PortInfo = get_or a.registry.ports c.args.place no_port in
    let place : port_place s port ≡ Some c.args.place = ap (λ (x : State). port_place x port) c.self.view_is ∙ known in
    let here : slice_get a.registry.ports c.args.place ≡ Some q = slice_get-get_or a.registry.ports c.args.place no_port (subst (λ (x : State). c.args.place < length x.routing.ports) (sym c.self.view_is) c.requires.within) in
    let asked = c.in-Some.asked in
    let is_asked = rw c.items.ensures at (sym c.pool_request.ensures ∙ c.in-Some.is) in
    let plain = c.bare_reply-reply.ensures in
    let asks = c.in_ok-push.ensures.ok ∙ (λ i. (plain i).asks ++ (let x : Exchange = record { request = None; reply = c.in_ok-answer.ensures i } in x) ∷ []) in
    step_from s c.args.self.now (Arp port c.args.bytes.now) _ _ c.self.view_is
    (arp_step c.self.invariant.kept (ap (λ (x : State). is_declared x.phase) c.self.view_is ∙ c.requires.ready) port c.args.bytes.now q formed (port_at s port c.args.place q place here)
    _ (answer_reply s c.args.bytes.now asked is_asked _ (λ i. record (plain i) { asks = asks i })) a.resolved.items
    (other_state s c.args.bytes.now asked is_asked q (rw c.ports.ensures at (sym c.asks_as.ensures ∙ c.if-not-asks_as.true))))

pub invariant_of-self-then-not-asks_as : goal.invariant_of-self-then-not-asks_as
invariant_of-self-then-not-asks_as c =
    let a = c.self.inside in
    let s : State = state_of a.phase a.base a.size a.registry a.server a.resolved.items a.classes a.adverts.told a.switch a.programs.items in
    let q : PortInfo = get_or a.registry.ports c.args.place no_port in
    let place : port_place s c.requires.line.0 ≡ Some c.args.place = ap (λ (x : State). port_place x c.requires.line.0) c.self.view_is ∙ c.requires.line.2 in
    let here : slice_get a.registry.ports c.args.place ≡ Some q = slice_get-get_or a.registry.ports c.args.place no_port (subst (λ (x : State). c.args.place < length x.routing.ports) (sym c.self.view_is) c.requires.within) in
    let is_asked = rw c.items.ensures at (sym c.pool_request.ensures ∙ c.in-Some.is) in
    record {
      kept = arp_kept c.self.invariant.kept (ap (λ (x : State). is_declared x.phase) c.self.view_is ∙ c.requires.ready) c.requires.line.0 c.args.bytes.now q c.requires.line.1 (port_at s c.requires.line.0 c.args.place q place here) a.resolved.items
          (other_state s c.args.bytes.now c.in-Some.asked is_asked q (rw c.ports.ensures at (sym c.asks_as.ensures ∙ c.if-not-asks_as.true)));
      present = c.self.invariant.present;
    }

pub invariant_of-self-2 : goal.invariant_of-self-2
invariant_of-self-2 c =
    let a = c.self.inside in
    let s : State = state_of a.phase a.base a.size a.registry a.server a.resolved.items a.classes a.adverts.told a.switch a.programs.items in
    let q : PortInfo = get_or a.registry.ports c.args.place no_port in
    let place : port_place s c.requires.line.0 ≡ Some c.args.place = ap (λ (x : State). port_place x c.requires.line.0) c.self.view_is ∙ c.requires.line.2 in
    let here : slice_get a.registry.ports c.args.place ≡ Some q = slice_get-get_or a.registry.ports c.args.place no_port (subst (λ (x : State). c.args.place < length x.routing.ports) (sym c.self.view_is) c.requires.within) in
    let asked = c.in-Some.asked in
    let is_asked = rw c.items.ensures at (sym c.pool_request.ensures ∙ c.in-Some.is) in
    let even : length a.resolved.items ≡ length a.registry.ports = c.self.invariant.kept.steady.resolved in
    let less : c.args.place < length a.registry.ports = (subst (λ (x : State). c.args.place < length x.routing.ports) (sym c.self.view_is) c.requires.within) in
    let set = c.index_mut.result.now in
    let set_is : set ≡ get_or a.resolved.items c.args.place set = c.index_mut.ensures.value in
    let lists = slice_set a.resolved.items c.args.place c.insert_all.new.self in
    let then = own_state s c.args.bytes.now asked is_asked c.requires.line.0 c.args.place q place here (rw c.ports.ensures at (sym c.asks_as.ensures ∙ c.if-not-asks_as.false))
    set (slice_get-get_or a.resolved.items c.args.place set (omega arith) ∙ ap Some (sym set_is)) lists (ap (slice_set a.resolved.items c.args.place) c.in_ok-insert_all.ensures.ok) in
    record {
      kept = arp_kept c.self.invariant.kept (ap (λ (x : State). is_declared x.phase) c.self.view_is ∙ c.requires.ready) c.requires.line.0 c.args.bytes.now q c.requires.line.1 (port_at s c.requires.line.0 c.args.place q place here) lists then;
      present = c.self.invariant.present;
    }

pub returns-clause-step : goal.returns-clause-step
returns-clause-step c = λ port formed known.
    let a = c.self.inside in
    let s : State = state_of a.phase a.base a.size a.registry a.server a.resolved.items a.classes a.adverts.told a.switch a.programs.items in
    let q : PortInfo = get_or a.registry.ports c.args.place no_port in
    let place : port_place s port ≡ Some c.args.place = ap (λ (x : State). port_place x port) c.self.view_is ∙ known in
    let here : slice_get a.registry.ports c.args.place ≡ Some q = slice_get-get_or a.registry.ports c.args.place no_port (subst (λ (x : State). c.args.place < length x.routing.ports) (sym c.self.view_is) c.requires.within) in
    let asked = c.in-Some.asked in
    let is_asked = rw c.items.ensures at (sym c.pool_request.ensures ∙ c.in-Some.is) in
    let plain = c.bare_reply-reply.ensures in
    let asks = c.in_ok-push.ensures.ok ∙ (λ i. (plain i).asks ++ (let x : Exchange = record { request = None; reply = c.in_ok-answer.ensures i } in x) ∷ []) in
    let even : length a.resolved.items ≡ length a.registry.ports = c.self.invariant.kept.steady.resolved in
    let less : c.args.place < length a.registry.ports = (subst (λ (x : State). c.args.place < length x.routing.ports) (sym c.self.view_is) c.requires.within) in
    let set = c.index_mut.result.now in
    let set_is : set ≡ get_or a.resolved.items c.args.place set = c.index_mut.ensures.value in
    let lists = slice_set a.resolved.items c.args.place c.insert_all.new.self in
    let then = own_state s c.args.bytes.now asked is_asked port c.args.place q place here (rw c.ports.ensures at (sym c.asks_as.ensures ∙ c.if-not-asks_as.false))
    set (slice_get-get_or a.resolved.items c.args.place set (omega arith) ∙ ap Some (sym set_is)) lists (ap (slice_set a.resolved.items c.args.place) c.in_ok-insert_all.ensures.ok) in
    step_from s c.args.self.now (Arp port c.args.bytes.now) _ _ c.self.view_is
    (arp_step c.self.invariant.kept (ap (λ (x : State). is_declared x.phase) c.self.view_is ∙ c.requires.ready) port c.args.bytes.now q formed (port_at s port c.args.place q place here)
    _ (answer_reply s c.args.bytes.now asked is_asked _ (λ i. record (plain i) { asks = asks i })) lists then)
