use Rattle.std.proofs.Common.{refl, ◌<◌, ◌≤◌, [], ap, arith, length, subst, sym, ◌∙◌, ◌++◌, ◌∷◌}
use Rattle.std.specs.Prelude.{is_some}
use Rattle.std.proofs.lemmas.Bool.{le-leb}
use Rattle.events.specs.After.{with_participant as with_participant_of}
use Rattle.events.specs.State.{State}
use Rattle.events.specs.declared.Event.{Event}
use Rattle.events.specs.declared.Event.TheVariants.{Participant as DeclaresParticipant}
use Rattle.events.specs.Fits.{IsStep}
use Rattle.net_types.specs.Exports.{pid_of}
use Rattle.net_types.specs.declared.route.Participant.{Participant}
use Rattle.registry.specs.Registered.{with_participant}
use Rattle.exchange_core.proofs.Declared.{full_stops, joined_is, name_stops, nobody_told, nothing_joined, participant_compiled, participant_kept, participant_step}
use Rattle.exchange_core.proofs.Steps.{step_from}
use Rattle.exchange_core.specs.View.{AreParts, state_of}
use Rattle.exchange_core.proofs.exchange.Core.participant.Goals as goal

pub returns-then-is_some-clause-stop : goal.returns-then-is_some-clause-stop
returns-then-is_some-clause-stop c =
    let a = c.self.inside in
    let s : State = state_of a.phase a.base a.size a.registry a.server a.resolved.items a.classes a.adverts.told a.switch a.programs.items in
    name_stops s c.args.self.now c.self.view_is (ap (λ (x : State). x.phase) c.self.view_is ∙ c.requires.declaring) c.args.name.now c.args.asn c.args.id
    (ap is_some (sym (rw c.items.ensures at c.find_octets.ensures)) ∙ sym c.is_some.ensures ∙ c.if-is_some.true) c.into.result c.into.ensures

pub returns-then-declared-ge256-clause-stop : goal.returns-then-declared-ge256-clause-stop
returns-then-declared-ge256-clause-stop c =
    let a = c.self.inside in
    let s : State = state_of a.phase a.base a.size a.registry a.server a.resolved.items a.classes a.adverts.told a.switch a.programs.items in
    let many : 256 ≤ length a.registry.participants = omega (arith, ap length c.participants-declared.ensures.all) in
    full_stops s c.args.self.now c.self.view_is (ap (λ (x : State). x.phase) c.self.view_is ∙ c.requires.declaring) c.args.name.now c.args.asn c.args.id
    (ap is_some (sym (rw c.items.ensures at c.find_octets.ensures)) ∙ sym c.is_some.ensures ∙ c.if-is_some.false)
    (le-leb 256 (length a.registry.participants) many) c.into-then-declared-ge256.result c.into-then-declared-ge256.ensures

pub invariant_of-self-2 : goal.invariant_of-self-2
invariant_of-self-2 c =
    let a = c.self.inside in
    let s : State = state_of a.phase a.base a.size a.registry a.server a.resolved.items a.classes a.adverts.told a.switch a.programs.items in
    let m : Participant = record { name = c.args.name.now; asn = c.args.asn; id = c.args.id } in
    let few : length a.registry.participants < 256 = omega (arith, ap length c.participants-declared.ensures.all) in
    subst (λ (x : State). AreParts x a.pool c.push.new.self.items c.in_ok-adverts.adverts.present)
    (sym (joined_is a.phase a.base a.size a.registry c.add_octets.new.self a.server c.add_participant.new.self a.resolved.items a.resolved.items a.classes a.adverts.told c.in_ok-adverts.adverts.told a.switch a.programs.items c.push.new.self.items m
    (c.in-Ok.ensures.declared ∙ ap (λ n. with_participant a.registry (record { name = n; asn = c.args.asn; id = c.args.id })) c.items-2.ensures)
    c.in_ok-add_participant.ensures.rules c.in_ok-add_participant.ensures.named c.in_ok-add_participant.ensures.routes
    (c.in_ok-adverts.ensures.told ∙ nobody_told c.self.invariant.kept (ap (λ (x : State). x.phase) c.self.view_is ∙ c.requires.declaring) _ (ap length c.participants-declared.ensures.all))
    c.in_ok-programs.programs (c.in-Ok-push.ensures.items ∙ ap (λ bs. bs ++ c.in_ok-programs.programs ∷ []) c.reserve.ensures.items) c.in_ok-programs.ensures.outbound c.in_ok-programs.ensures.inbound))
    (record {
      kept = participant_kept c.self.invariant.kept (ap (λ (x : State). x.phase) c.self.view_is ∙ c.requires.declaring) c.args.name.now c.args.asn c.args.id c.requires.formed
          (ap is_some (sym (rw c.items.ensures at c.find_octets.ensures)) ∙ sym c.is_some.ensures ∙ c.if-is_some.false) few
          c.push.new.self.items (participant_compiled c.self.invariant.kept (ap (λ (x : State). x.phase) c.self.view_is ∙ c.requires.declaring) refl refl (pid_of (with_participant_of s m).routing) c.in_ok-programs.programs c.in_ok-programs.ensures.outbound c.in_ok-programs.ensures.inbound
          c.push.new.self.items (c.in-Ok-push.ensures.items ∙ ap (λ bs. bs ++ c.in_ok-programs.programs ∷ []) c.reserve.ensures.items));
      present = c.in_ok-adverts.ensures.present ∙ nothing_joined c.self.invariant.kept (ap (λ (x : State). x.phase) c.self.view_is ∙ c.requires.declaring) m _ (ap length c.participants-declared.ensures.all);
    })

pub returns-clause-step : goal.returns-clause-step
returns-clause-step c =
    let a = c.self.inside in
    let m : Participant = record { name = c.args.name.now; asn = c.args.asn; id = c.args.id } in
    let few : length a.registry.participants < 256 = omega (arith, ap length c.participants-declared.ensures.all) in
    let s : State = state_of a.phase a.base a.size a.registry a.server a.resolved.items a.classes a.adverts.told a.switch a.programs.items in
    let e : Event = DeclaresParticipant c.args.name.now c.args.asn c.args.id in
    step_from s c.args.self.now e c.bare_reply.result _ c.self.view_is
    (subst (IsStep s e c.bare_reply.result)
    (sym (joined_is a.phase a.base a.size a.registry c.add_octets.new.self a.server c.add_participant.new.self a.resolved.items a.resolved.items a.classes a.adverts.told c.in_ok-adverts.adverts.told a.switch a.programs.items c.push.new.self.items m
    (c.in-Ok.ensures.declared ∙ ap (λ n. with_participant a.registry (record { name = n; asn = c.args.asn; id = c.args.id })) c.items-2.ensures)
    c.in_ok-add_participant.ensures.rules c.in_ok-add_participant.ensures.named c.in_ok-add_participant.ensures.routes
    (c.in_ok-adverts.ensures.told ∙ nobody_told c.self.invariant.kept (ap (λ (x : State). x.phase) c.self.view_is ∙ c.requires.declaring) _ (ap length c.participants-declared.ensures.all))
    c.in_ok-programs.programs (c.in-Ok-push.ensures.items ∙ ap (λ bs. bs ++ c.in_ok-programs.programs ∷ []) c.reserve.ensures.items) c.in_ok-programs.ensures.outbound c.in_ok-programs.ensures.inbound))
    (participant_step c.self.invariant.kept (ap (λ (x : State). x.phase) c.self.view_is ∙ c.requires.declaring) c.args.name.now c.args.asn c.args.id c.requires.formed
    (ap is_some (sym (rw c.items.ensures at c.find_octets.ensures)) ∙ sym c.is_some.ensures ∙ c.if-is_some.false) few c.bare_reply.result c.bare_reply.ensures))
