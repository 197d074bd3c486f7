use Rattle.std.proofs.Common.{◌<◌, sym, ap, ◌∙◌, refl, rules}
use Rattle.std.specs.Borrow.{Bor}
use Rattle.std.specs.Option.{option_map}
use Rattle.events.specs.State.{State, port_of, told_to}
use Rattle.events.specs.declared.Entry.{Entry}
use Rattle.events.specs.declared.Event.TheVariants.{Packet}
use Rattle.net_types.specs.Arp.{no_mac}
use Rattle.net_types.specs.declared.prefix.Prefix.{Prefix}
use Rattle.exchange_core.specs.Leaving.{sent_by}
use Rattle.exchange_core.specs.Placed.{is_declared}
use Rattle.exchange_core.specs.View.{state_of}
use Rattle.exchange_core.proofs.Owners.{owner_place, owner_told}
use Rattle.exchange_core.proofs.Packets.{no_packet, packet_kept, packet_step, reply_by}
use Rattle.exchange_laws.proofs.PoolTags.{told_small}
use Rattle.exchange_core.proofs.Steps.{step_from}
use Rattle.exchange_core.proofs.exchange.Core.packet.Goals as goal
use Rattle.exchange_core.proofs.exchange.Core.packet.Goals.{in-Some-longest+in_ok-reply-in-Some-longest, in-None}

pub returns-in_default-clause-stop : goal.returns-in_default-clause-stop
returns-in_default-clause-stop c =
    let a = c.self.inside in
    let s : State = state_of a.phase a.base a.size a.registry a.server a.resolved.items a.classes a.adverts.told a.switch a.programs.items in
    no_packet s c.args.self.now c.self.view_is (ap (λ (x : State). is_declared x.phase) c.self.view_is ∙ c.requires.ready) c.args.source.number c.args.bytes.now c.args.source
    (ap (λ (x : State). port_of x c.args.source.number) c.self.view_is ∙ c.requires.known) no_mac refl c.known.ensures c.in_ok-frame.frame.items
    (rw c.items.ensures at c.in_ok-frame.ensures) (rw c.as_slice-2.ensures.value at (sym c.headers.ensures ∙ c.in_default.is)) c.into.result c.into.ensures

pub longest-requires : goal.longest-requires
longest-requires c = record { declared = owner_place c.self.invariant.kept c.args.source.number c.args.source (ap (λ (x : State). port_of x c.args.source.number) c.self.view_is ∙ c.requires.known) }

pub sent-requires-clause-small : goal.sent-requires-clause-small
sent-requires-clause-small c =
    let a = c.self.inside in
    let s : State = state_of a.phase a.base a.size a.registry a.server a.resolved.items a.classes a.adverts.told a.switch a.programs.items in
    let source = c.args.source in
    told_small c.self.invariant.kept.steady source.owner.0 (told_to s source.owner) (owner_told c.self.invariant.kept c.args.source.number source (ap (λ (x : State). port_of x c.args.source.number) c.self.view_is ∙ c.requires.known))
    c.in-Some-longest.field-0-0 c.in-Some-longest.entry.now (sym c.in-Some-longest.ensures.value)

pub invariant_of-self : goal.invariant_of-self
invariant_of-self c =
    let a = c.self.inside in
    let s : State = state_of a.phase a.base a.size a.registry a.server a.resolved.items a.classes a.adverts.told a.switch a.programs.items in
    let source = c.args.source in
    let found = ap (λ (x : State). port_of x c.args.source.number) c.self.view_is ∙ c.requires.known in
    let low : c.args.source.number.0 < 65536 = search rules in record {
      kept = packet_kept s a.pool c.self.invariant.kept c.args.source.number source found (told_to s source.owner) (owner_told c.self.invariant.kept c.args.source.number source found)
          c.args.bytes.now c.in_ok-frame.frame.items no_mac c.in-Some.fields refl c.known.ensures low
          (rw c.items.ensures at c.in_ok-frame.ensures) (rw c.as_slice.ensures.value at c.are_octets.ensures) (rw c.as_slice-2.ensures.value at (sym c.headers.ensures ∙ c.in-Some.is))
          (ap (λ (x : State). is_declared x.phase) c.self.view_is ∙ c.requires.ready) c.requires.formed c.longest.result c.longest.ensures.key c.longest.ensures.value;
      present = c.self.invariant.present;
    }

pub returns-clause-step : goal.returns-clause-step
returns-clause-step c =
    let a = c.self.inside in
    let source = c.args.source in
    let found = ap (λ (x : State). port_of x c.args.source.number) c.self.view_is ∙ c.requires.known in
    let low : c.args.source.number.0 < 65536 = search rules in
    let s : State = state_of a.phase a.base a.size a.registry a.server a.resolved.items a.classes a.adverts.told a.switch a.programs.items in
    let e = Packet c.args.source.number c.args.bytes.now in
    step_from s c.args.self.now e c.match-longest.reply _ c.self.view_is
    (packet_step s a.pool c.self.invariant.kept c.args.source.number source found (told_to s source.owner) (owner_told c.self.invariant.kept c.args.source.number source found)
    c.args.bytes.now c.in_ok-frame.frame.items no_mac c.in-Some.fields refl c.known.ensures low
    (rw c.items.ensures at c.in_ok-frame.ensures) (rw c.as_slice.ensures.value at c.are_octets.ensures) (rw c.as_slice-2.ensures.value at (sym c.headers.ensures ∙ c.in-Some.is))
    (ap (λ (x : State). is_declared x.phase) c.self.view_is ∙ c.requires.ready) c.requires.formed c.longest.result c.longest.ensures.key c.longest.ensures.value c.match-longest.reply
    (elim c.match-longest.branch [
      | in-Some-longest+in_ok-reply-in-Some-longest w ↦ w.reply-is ∙ w.in_ok-reply-in-Some-longest.ensures ∙ ap (λ x. sent_by x source w.in-Some-longest.entry.now.tag c.in_ok-frame.frame.items) (sym c.self.view_is) ∙ ap (λ o. reply_by s source c.in_ok-frame.frame.items (option_map (λ (x : Prefix × Bor Entry). x.1.now) o)) (sym w.in-Some-longest.is)
      | in-None w ↦ w.reply-is ∙ w.bare_reply-reply.ensures ∙ ap (λ o. reply_by s source c.in_ok-frame.frame.items (option_map (λ (x : Prefix × Bor Entry). x.1.now) o)) (sym w.in-None.is)
    ]))
