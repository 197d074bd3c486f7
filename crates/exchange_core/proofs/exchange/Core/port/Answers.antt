use Rattle.std.proofs.Common.{◌++◌, ◌∷◌, [], ap, subst, sym, ◌∙◌}
use Rattle.events.proofs.Reached.{declared_pid}
use Rattle.events.specs.Fits.{IsStep}
use Rattle.events.specs.State.{State}
use Rattle.events.specs.declared.Event.{Event}
use Rattle.events.specs.declared.Event.TheVariants.{Port as DeclaresPort}
use Rattle.net_types.specs.Exports.{pid_of}
use Rattle.net_types.specs.declared.route.PortInfo.{PortInfo}
use Rattle.exchange_core.proofs.Declared.{nothing_ported, port_kept, port_stops, port_step, ported_is}
use Rattle.exchange_core.proofs.Steps.{step_from}
use Rattle.exchange_core.specs.View.{AreParts, state_of}
use Rattle.exchange_core.proofs.exchange.Core.port.Goals as goal

pub returns-then-is_barred-clause-stop : goal.returns-then-is_barred-clause-stop
returns-then-is_barred-clause-stop c =
    let a = c.self.inside in
    let s : State = state_of a.phase a.base a.size a.registry a.server a.resolved.items a.classes a.adverts.told a.switch a.programs.items in
    λ name known. port_stops s c.args.self.now c.self.view_is (ap (λ (x : State). x.phase) c.self.view_is ∙ c.requires.declaring) name c.args.owner c.args.number c.args.ip c.args.mac
    (ap (λ (x : State). pid_of x.routing name) c.self.view_is ∙ known) (sym (rw c.is_taken-in_use.ensures at c.is_barred.ensures) ∙ c.if-is_barred.true) c.into.result c.into.ensures

pub invariant_of-self-in-Ok : goal.invariant_of-self-in-Ok
invariant_of-self-in-Ok c =
    let a = c.self.inside in
    let q : PortInfo = record { owner = c.args.owner; number = c.args.number; ip = c.args.ip; mac = c.args.mac } in
    subst (λ x. AreParts x a.pool a.programs.items a.adverts.present)
    (sym (ported_is a.phase a.base a.size a.registry c.add_port.new.self a.server a.server a.resolved.items c.push.new.self.items a.classes a.adverts.told a.adverts.told a.switch a.programs.items a.programs.items q c.in-Ok.ensures.declared
    (c.in_ok-push.ensures.items ∙ ap (λ x. a.resolved.items ++ x ∷ []) c.new.ensures)))
    (record {
      kept = port_kept c.self.invariant.kept (ap (λ (x : State). x.phase) c.self.view_is ∙ c.requires.declaring) c.requires.line.0 c.args.owner c.args.number c.args.ip c.args.mac c.requires.line.1
          (ap (λ (x : State). pid_of x.routing c.requires.line.0) c.self.view_is ∙ c.requires.line.2) (sym (rw c.is_taken-in_use.ensures at c.is_barred.ensures) ∙ c.if-is_barred.false);
      present = c.self.invariant.present ∙ nothing_ported c.self.invariant.kept (ap (λ (x : State). x.phase) c.self.view_is ∙ c.requires.declaring) q;
    })

pub returns-in-Ok-clause-step : goal.returns-in-Ok-clause-step
returns-in-Ok-clause-step c = λ name formed known.
    let a = c.self.inside in
    let s : State = state_of a.phase a.base a.size a.registry a.server a.resolved.items a.classes a.adverts.told a.switch a.programs.items in
    let e : Event = DeclaresPort name c.args.number c.args.ip c.args.mac in
    let q : PortInfo = record { owner = c.args.owner; number = c.args.number; ip = c.args.ip; mac = c.args.mac } in
    step_from s c.args.self.now e c.bare_reply.result _ c.self.view_is
    (subst (IsStep s e c.bare_reply.result)
    (sym (ported_is a.phase a.base a.size a.registry c.add_port.new.self a.server a.server a.resolved.items c.push.new.self.items a.classes a.adverts.told a.adverts.told a.switch a.programs.items a.programs.items q c.in-Ok.ensures.declared
    (c.in_ok-push.ensures.items ∙ ap (λ x. a.resolved.items ++ x ∷ []) c.new.ensures)))
    (port_step c.self.invariant.kept (ap (λ (x : State). x.phase) c.self.view_is ∙ c.requires.declaring) name c.args.owner c.args.number c.args.ip c.args.mac formed
    (ap (λ (x : State). pid_of x.routing name) c.self.view_is ∙ known) (sym (rw c.is_taken-in_use.ensures at c.is_barred.ensures) ∙ c.if-is_barred.false) c.bare_reply.result c.bare_reply.ensures))

pub add_port-requires : goal.add_port-requires
add_port-requires c =
    let a = c.self.inside in
    let s : State = state_of a.phase a.base a.size a.registry a.server a.resolved.items a.classes a.adverts.told a.switch a.programs.items in
    declared_pid s.routing c.requires.line.0 c.args.owner (ap (λ (x : State). pid_of x.routing c.requires.line.0) c.self.view_is ∙ c.requires.line.2)
