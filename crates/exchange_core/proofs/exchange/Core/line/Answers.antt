use Rattle.std.proofs.Common.{◌≡◌, true, ap, subst, sym, ◌∙◌, refl}
use Rattle.std.specs.Prelude.{None, Some, Result, IfErr, IfOk}
use Rattle.events.specs.Fits.{IsStep}
use Rattle.events.specs.Forms.{IsWellFormed}
use Rattle.events.specs.Refusals.{is_placed}
use Rattle.events.specs.State.{State, port_of}
use Rattle.events.specs.declared.Event.{Event}
use Rattle.events.specs.declared.Event.TheVariants.{Arp, Frame, Packet, Resolve}
use Rattle.events.specs.declared.Reply.{Reply}
use Rattle.exchange_laws.proofs.Forwarded.{numbered, same_number}
use Rattle.net_types.specs.declared.address.PortNo.{PortNo}
use Rattle.net_types.specs.declared.route.PortInfo.{PortInfo}
use Rattle.exchange_core.specs.Stops.{IsStop}
use Rattle.exchange_core.specs.declared.stop.Stop.{Stop}
use Rattle.exchange_core.proofs.Builds.{line_steps, line_stops, steps_within}
use Rattle.exchange_core.proofs.Ports.{found_nowhere}
use Rattle.exchange_core.proofs.Stops.{returned, unknown_stops}
use Rattle.exchange_core.proofs.Told.{line_keeps, quiet_line, quiet_result}
use Rattle.exchange_core.proofs.exchange.Core.line.Goals as goal

pub returns-in_err-place-in-Arp-clause-stop : goal.returns-in_err-place-in-Arp-clause-stop
returns-in_err-place-in-Arp-clause-stop g c =
    let st : State = c.args.self.now in
    let e : Event = Arp c.in-Arp.port c.in-Arp.bytes in
    let stop : Stop = c.in_err-place-in-Arp.field-0.0 in
    let unknown = c.in_err-place-in-Arp.ensures.known in
    let nowhere : port_of st c.in-Arp.port ≡ None = found_nowhere (numbered c.in-Arp.port) 0 st.routing.ports unknown.0 in
    let here : is_placed st.phase e ≡ true = subst (λ x. is_placed st.phase x ≡ true) c.in-Arp.is (sym c.is_placed.ensures ∙ c.if-not-is_placed.false) in
    returned (λ (r : Result Reply Stop). IfErr r (IsStop st c.args.event.now)) c.from_residual-in_err-place-in-Arp.result stop c.from_residual-in_err-place-in-Arp.ensures.1
    (subst (λ x. IsStop st x stop) (sym c.in-Arp.is) (unknown_stops {X = PortInfo} st e stop (port_of st c.in-Arp.port) (λ q. None) here refl (nowhere, unknown.1)))

pub returns-in_err-place-in-Resolve-clause-stop : goal.returns-in_err-place-in-Resolve-clause-stop
returns-in_err-place-in-Resolve-clause-stop g c =
    let st : State = c.args.self.now in
    let e : Event = Resolve c.in-Resolve.port in
    let stop : Stop = c.in_err-place-in-Resolve.field-0.0 in
    let unknown = c.in_err-place-in-Resolve.ensures.known in
    let nowhere : port_of st c.in-Resolve.port ≡ None = found_nowhere (numbered c.in-Resolve.port) 0 st.routing.ports unknown.0 in
    let here : is_placed st.phase e ≡ true = subst (λ x. is_placed st.phase x ≡ true) c.in-Resolve.is (sym c.is_placed.ensures ∙ c.if-not-is_placed.false) in
    returned (λ (r : Result Reply Stop). IfErr r (IsStop st c.args.event.now)) c.from_residual-in_err-place-in-Resolve.result stop c.from_residual-in_err-place-in-Resolve.ensures.1
    (subst (λ x. IsStop st x stop) (sym c.in-Resolve.is) (unknown_stops {X = PortInfo} st e stop (port_of st c.in-Resolve.port) (λ q. None) here refl (nowhere, unknown.1)))

pub packet-requires-clause-formed : goal.packet-requires-clause-formed
packet-requires-clause-formed g c =
    let st : State = c.args.self.now in
    let source : PortInfo = c.in_ok-source-in-Packet.field-0 in
    let own : source.number ≡ c.in-Packet.port = same_number st.routing.ports c.in-Packet.port source c.in_ok-source-in-Packet.ensures in
    subst (λ (n : PortNo). IsWellFormed (Packet n c.in-Packet.bytes)) (sym own) (subst IsWellFormed c.in-Packet.is c.requires.formed)

pub packet-requires-clause-known : goal.packet-requires-clause-known
packet-requires-clause-known g c =
    let st : State = c.args.self.now in
    let source : PortInfo = c.in_ok-source-in-Packet.field-0 in
    let own : source.number ≡ c.in-Packet.port = same_number st.routing.ports c.in-Packet.port source c.in_ok-source-in-Packet.ensures in
    subst (λ (n : PortNo). port_of st n ≡ Some source) (sym own) c.in_ok-source-in-Packet.ensures

pub returns-in_ok-source-in-Packet-clause-step : goal.returns-in_ok-source-in-Packet-clause-step
returns-in_ok-source-in-Packet-clause-step g c =
    let st : State = c.args.self.now in
    let source : PortInfo = c.in_ok-source-in-Packet.field-0 in
    let own : source.number ≡ c.in-Packet.port = same_number st.routing.ports c.in-Packet.port source c.in_ok-source-in-Packet.ensures in
    let is : c.args.event.now ≡ Packet source.number c.in-Packet.bytes = c.in-Packet.is ∙ ap (λ (n : PortNo). Packet n c.in-Packet.bytes) (sym own) in
    subst (λ e. IfOk c.packet.result (λ reply. IsStep st e reply c.packet.new.self)) (sym is) c.packet.ensures.step

pub returns-in_ok-source-in-Packet-clause-stop : goal.returns-in_ok-source-in-Packet-clause-stop
returns-in_ok-source-in-Packet-clause-stop g c =
    let st : State = c.args.self.now in
    let source : PortInfo = c.in_ok-source-in-Packet.field-0 in
    let own : source.number ≡ c.in-Packet.port = same_number st.routing.ports c.in-Packet.port source c.in_ok-source-in-Packet.ensures in
    let is : c.args.event.now ≡ Packet source.number c.in-Packet.bytes = c.in-Packet.is ∙ ap (λ (n : PortNo). Packet n c.in-Packet.bytes) (sym own) in
    subst (λ e. IfErr c.packet.result (IsStop st e)) (sym is) c.packet.ensures.stop

pub returns-in_ok-source-in-Packet-clause-job : goal.returns-in_ok-source-in-Packet-clause-job
returns-in_ok-source-in-Packet-clause-job g c =
    let st : State = c.args.self.now in
    let source : PortInfo = c.in_ok-source-in-Packet.field-0 in
    let own : source.number ≡ c.in-Packet.port = same_number st.routing.ports c.in-Packet.port source c.in_ok-source-in-Packet.ensures in
    let is : c.args.event.now ≡ Packet source.number c.in-Packet.bytes = c.in-Packet.is ∙ ap (λ (n : PortNo). Packet n c.in-Packet.bytes) (sym own) in
    quiet_result c.quiet_lines_keep_jobs.ensures st c.args.event.now (Packet source.number c.in-Packet.bytes) is refl c.is_steady.ensures c.requires.formed c.requires.line c.packet.result c.packet.new.self c.args.job.now c.packet.ensures.step

pub frame-requires-clause-formed : goal.frame-requires-clause-formed
frame-requires-clause-formed g c =
    let st : State = c.args.self.now in
    let source : PortInfo = c.in_ok-source-in-Frame.field-0 in
    let own : source.number ≡ c.in-Frame.port = same_number st.routing.ports c.in-Frame.port source c.in_ok-source-in-Frame.ensures in
    subst (λ (n : PortNo). IsWellFormed (Frame n c.in-Frame.bytes)) (sym own) (subst IsWellFormed c.in-Frame.is c.requires.formed)

pub frame-requires-clause-known : goal.frame-requires-clause-known
frame-requires-clause-known g c =
    let st : State = c.args.self.now in
    let source : PortInfo = c.in_ok-source-in-Frame.field-0 in
    let own : source.number ≡ c.in-Frame.port = same_number st.routing.ports c.in-Frame.port source c.in_ok-source-in-Frame.ensures in
    subst (λ (n : PortNo). port_of st n ≡ Some source) (sym own) c.in_ok-source-in-Frame.ensures

pub returns-in_ok-frame-in-Frame-clause-step : goal.returns-in_ok-frame-in-Frame-clause-step
returns-in_ok-frame-in-Frame-clause-step g c =
    let st : State = c.args.self.now in
    let source : PortInfo = c.in_ok-source-in-Frame.field-0 in
    let own : source.number ≡ c.in-Frame.port = same_number st.routing.ports c.in-Frame.port source c.in_ok-source-in-Frame.ensures in
    let is : c.args.event.now ≡ Frame source.number c.in-Frame.bytes = c.in-Frame.is ∙ ap (λ (n : PortNo). Frame n c.in-Frame.bytes) (sym own) in
    subst (λ e. IsStep st e c.in_ok-frame-in-Frame.field-0 c.frame.new.self) (sym is) c.in_ok-frame-in-Frame.ensures.step

pub returns-in_ok-frame-in-Frame-clause-job : goal.returns-in_ok-frame-in-Frame-clause-job
returns-in_ok-frame-in-Frame-clause-job g c =
    let st : State = c.args.self.now in
    let source : PortInfo = c.in_ok-source-in-Frame.field-0 in
    let own : source.number ≡ c.in-Frame.port = same_number st.routing.ports c.in-Frame.port source c.in_ok-source-in-Frame.ensures in
    let is : c.args.event.now ≡ Frame source.number c.in-Frame.bytes = c.in-Frame.is ∙ ap (λ (n : PortNo). Frame n c.in-Frame.bytes) (sym own) in
    quiet_line c.quiet_lines_keep_jobs.ensures st c.args.event.now (Frame source.number c.in-Frame.bytes) is refl c.is_steady.ensures c.requires.formed c.requires.line c.in_ok-frame-in-Frame.field-0 c.frame.new.self c.args.job.now c.in_ok-frame-in-Frame.ensures.step

pub returns-in_ok-request-in_default-clause-step : goal.returns-in_ok-request-in_default-clause-step
returns-in_ok-request-in_default-clause-step g c =
    let asks = c.in_ok-request-in_default.ensures in
    line_steps c.args.self.now c.args.event.now asks.0 asks.1 c.in_ok-request-in_default.request c.build.result _ c.requires.formed asks.2 c.build.ensures.step

pub returns-in_ok-request-in_default-clause-stop : goal.returns-in_ok-request-in_default-clause-stop
returns-in_ok-request-in_default-clause-stop g c =
    let asks = c.in_ok-request-in_default.ensures in
    line_stops c.args.self.now c.args.event.now asks.0 asks.1 c.in_ok-request-in_default.request c.build.result asks.2 c.build.ensures.stop

pub returns-in_ok-request-in_default-clause-job : goal.returns-in_ok-request-in_default-clause-job
returns-in_ok-request-in_default-clause-job g c =
    let asks = c.in_ok-request-in_default.ensures in
    line_keeps c.args.self.now c.args.event.now asks.0 asks.1 c.in_ok-request-in_default.request c.build.result c.args.job.now _ c.requires.formed asks.2 c.build.ensures.job

pub returns-in_ok-request-in_default-clause-steps : goal.returns-in_ok-request-in_default-clause-steps
returns-in_ok-request-in_default-clause-steps g c =
    let asks = c.in_ok-request-in_default.ensures in
    steps_within c.args.self.now c.args.event.now asks.0 asks.1 c.in_ok-request-in_default.request c.args.steps.now _ asks.2 (c.build.ensures.steps c.args.event.now asks.0 asks.1 asks.2)
