-- A line that changes neither the routes nor what was told leaves a sound state, with the table that was there.
use Rattle.std.proofs.Common.{◌≡◌, ℕ, Bool, true, false, cond, List, [], ◌∷◌, map, sym, ap, subst, ◌∙◌, refl}
use Rattle.std.specs.Prelude.{Option, Some, None, MatchOption, is_some}
use Rattle.std.specs.FinMap.{get, keys}
use Rattle.events.specs.After.{after, next}
use Rattle.events.specs.Forms.{IsWellFormed}
use Rattle.events.specs.Fits.{FitsBy, IsAccepted, IsAnswer, IsSent, IsTagged, Passes, asks_for, bare, by_table, is_building, is_of_job, responder_reply}
use Rattle.net_types.specs.Frames.{destination}
use Rattle.events.specs.Refusals.{refusal}
use Rattle.events.specs.Resolving.{is_pool_request, is_resolved, pool_mac, tag_address, unresolved}
use Rattle.events.specs.Sound.{IsSound}
use Rattle.events.specs.State.{State, port_of, told_to}
use Rattle.events.specs.declared.Entry.{Entry}
use Rattle.events.specs.declared.Event.{Event}
use Rattle.events.specs.declared.Event.TheVariants.{Bad, Exchange, Participant as DeclaresParticipant, Port as DeclaresPort, Update, Down, Export, Outbound, Inbound, Take, Drain, Arp, Resolve, Packet, Frame, Recompile, Work, Table}
use Rattle.events.specs.declared.Head.TheVariants.{Fine, Silent}
use Rattle.events.specs.declared.Reply.{Reply}
use Rattle.exchange_laws.proofs.LineSteps.{QuietStep, arp_step, exchange_step, participant, participant_step, pool, port, port_step, resolve_step, resolved, running_step}
use Rattle.exchange_laws.proofs.NewStates.{new_sound, no_pair}
use Rattle.exchange_laws.proofs.Rerouted.{passes}
use Rattle.exchange_laws.proofs.TidySteps.{IsNewYet, not_running, not_running_yet, quiet_new}
use Rattle.exchange_laws.specs.Quiet.{QuietLinesAreAccepted, is_quiet}
use Rattle.exchange_laws.specs.Steady.{IsNew, IsSteady}
use Rattle.net_types.specs.Arp.{arp_reply, asked_ip, asker_ip, asker_mac}
use Rattle.net_types.specs.Routes.{longest_of}
use Rattle.net_types.specs.declared.address.PortNo.{PortNo}
use Rattle.net_types.specs.declared.prefix.Prefix.{Prefix}
use Rattle.net_types.specs.declared.route.PortInfo.{PortInfo}
use Rattle.net_types.specs.declared.rule.Pair.{Pair}

-- ---- what a line does

quiet_step : (s : State) (e : Event) → refusal s e ≡ None → IsWellFormed e → is_of_job e ≡ false → is_quiet e ≡ true → QuietStep s (after s e)
quiet_step s Bad none formed other calm = absurd (let never = (passes s Bad none).1 in cc)
quiet_step s (Exchange base size capacity) none formed other calm = exchange_step s base size capacity none formed
quiet_step s (DeclaresParticipant name asn id) none formed other calm = participant_step s name asn id none
quiet_step s (DeclaresPort name number ip mac) none formed other calm = port_step s name number ip mac none formed
quiet_step s (Update name bytes) none formed other calm = absurd (cc)
quiet_step s (Down name) none formed other calm = absurd (cc)
quiet_step s (Export name text) none formed other calm = absurd (cc)
quiet_step s (Outbound name text) none formed other calm = absurd (cc)
quiet_step s (Inbound name text) none formed other calm = absurd (cc)
quiet_step s (Take name count) none formed other calm = absurd (cc)
quiet_step s (Drain name) none formed other calm = absurd (cc)
quiet_step s (Arp n bytes) none formed other calm = arp_step s n bytes none
quiet_step s (Resolve n) none formed other calm = resolve_step s n none
quiet_step s (Packet n bytes) none formed other calm = running_step s (Packet n bytes) refl none
quiet_step s (Frame n bytes) none formed other calm = running_step s (Frame n bytes) refl none
quiet_step s Recompile none formed other calm = absurd (cc)
quiet_step s (Work units) none formed other calm = absurd (cc)
quiet_step s Table none formed other calm = running_step s Table refl none

-- the table stays
step_table : (s : State) {s1 : State} → QuietStep s s1 → s1.table ≡ s.table
step_table s (pool base size capacity start formed) = refl
step_table s (participant m declaring few) = refl
step_table s (port q declaring declared free number) = refl
step_table s (resolved lists later long rising) = refl

-- ---- soundness

no_pairs : (s : State) → IsSteady s → IsNew s → (pair : Pair) → is_some (get s.table pair) ≡ false
no_pairs s steady new pair = steady.sound.pairs pair ∙ no_pair s new pair

sound_after : (s : State) {s1 : State} → QuietStep s s1 → IsSteady s → IsNewYet s1 → IsSound s1
sound_after s {s1} (pool base size capacity start formed) steady yet = new_sound s1 (yet (λ e. cc)) (no_pairs s steady (steady.new (not_running s start)))
sound_after s {s1} (participant m declaring few) steady yet = new_sound s1 (yet (not_running_yet s declaring)) (no_pairs s steady (steady.new (not_running_yet s declaring)))
sound_after s {s1} (port q declaring declared free number) steady yet = new_sound s1 (yet (not_running_yet s declaring)) (no_pairs s steady (steady.new (not_running_yet s declaring)))
sound_after s (resolved lists later long rising) steady yet =
    let sound : IsSound s = steady.sound in record {
      pairs = sound.pairs;
      right = (sound.right.0, record { names = sound.right.1.names; outbound = sound.right.1.outbound; inbound = sound.right.1.inbound }, sound.right.2);
      few = sound.few;
      tagged = sound.tagged;
      kept = sound.kept;
    }

-- ---- replies

-- the state after the line, with the table that was there
abbrev stays : State → Event → State
stays s e = record (after s e) { table = s.table }

arp_next : (s : State) (n : PortNo) (bytes : List ℕ) (reply : Reply) → reply ≡ responder_reply s bytes → next s (Arp n bytes) reply ≡ stays s (Arp n bytes)
arp_next s n bytes reply is = ap (next s (Arp n bytes)) is ∙ by (is_pool_request s bytes)
  where
    by : (b : Bool) → next s (Arp n bytes) (cond b (record (bare Fine) { asks = record { request = None; reply = arp_reply (asker_mac bytes) (asker_ip bytes) (asked_ip bytes) (pool_mac s (asked_ip bytes)) } ∷ [] }) (bare Silent)) ≡ stays s (Arp n bytes)
    by true = refl
    by false = refl

resolve_next : (s : State) (n : PortNo) (reply : Reply) (o : Option PortInfo) → MatchOption o ⊥ (λ q. reply ≡ record (bare Fine) { asks = map (asks_for s q) (unresolved s q) }) → next s (Resolve n) reply ≡ stays s (Resolve n)
resolve_next s n reply None none = absurd none
resolve_next s n reply (Some q) is = ap (next s (Resolve n)) is

frame_next : (s : State) (n : PortNo) (bytes : List ℕ) (reply : Reply) (o : Option PortInfo) → MatchOption o ⊥ (λ q. reply ≡ record (bare Fine) { frames = by_table s q bytes }) → next s (Frame n bytes) reply ≡ stays s (Frame n bytes)
frame_next s n bytes reply None none = absurd none
frame_next s n bytes reply (Some q) is = ap (next s (Frame n bytes)) is

tagged_next : (s : State) (n : PortNo) (bytes : List ℕ) (reply : Reply) (q : PortInfo) (p : Prefix) (b : Bool) (told : Entry) → IsTagged b s q bytes p told reply → next s (Packet n bytes) reply ≡ stays s (Packet n bytes)
tagged_next s n bytes reply q p true told is = ap (next s (Packet n bytes)) is.by_table
tagged_next s n bytes reply q p false told is = ap (next s (Packet n bytes)) is

told_next : (s : State) (n : PortNo) (bytes : List ℕ) (reply : Reply) (q : PortInfo) (p : Prefix) (o : Option Entry) → MatchOption o ⊥ (λ told. IsTagged (is_resolved s q.number (tag_address s told.tag)) s q bytes p told reply) → next s (Packet n bytes) reply ≡ stays s (Packet n bytes)
told_next s n bytes reply q p None none = absurd none
told_next s n bytes reply q p (Some told) is = tagged_next s n bytes reply q p (is_resolved s q.number (tag_address s told.tag)) told is

sent_next : (s : State) (n : PortNo) (bytes : List ℕ) (reply : Reply) (q : PortInfo) (o : Option Prefix) → IsSent s q bytes reply o → next s (Packet n bytes) reply ≡ stays s (Packet n bytes)
sent_next s n bytes reply q None is = ap (next s (Packet n bytes)) is
sent_next s n bytes reply q (Some p) is = told_next s n bytes reply q p (get (told_to s q.owner) p) is

packet_next : (s : State) (n : PortNo) (bytes : List ℕ) (reply : Reply) (o : Option PortInfo) → MatchOption o ⊥ (λ q. IsSent s q bytes reply (longest_of (keys (told_to s q.owner)) (destination bytes))) → next s (Packet n bytes) reply ≡ stays s (Packet n bytes)
packet_next s n bytes reply None none = absurd none
packet_next s n bytes reply (Some q) is = sent_next s n bytes reply q (longest_of (keys (told_to s q.owner)) (destination bytes)) is

-- its answer refuses nothing, and touches no rule of the table
answer_next : (s : State) (e : Event) (reply : Reply) (s1 : State) → is_quiet e ≡ true → IsAnswer s e reply s1 → next s e reply ≡ stays s e
answer_next s Bad reply s1 calm is = absurd is
answer_next s (Exchange base size capacity) reply s1 calm is = ap (next s (Exchange base size capacity)) is
answer_next s (DeclaresParticipant name asn id) reply s1 calm is = ap (next s (DeclaresParticipant name asn id)) is
answer_next s (DeclaresPort name number ip mac) reply s1 calm is = ap (next s (DeclaresPort name number ip mac)) is
answer_next s (Update name bytes) reply s1 calm is = absurd (cc)
answer_next s (Down name) reply s1 calm is = absurd (cc)
answer_next s (Export name text) reply s1 calm is = absurd (cc)
answer_next s (Outbound name text) reply s1 calm is = absurd (cc)
answer_next s (Inbound name text) reply s1 calm is = absurd (cc)
answer_next s (Take name count) reply s1 calm is = absurd (cc)
answer_next s (Drain name) reply s1 calm is = absurd (cc)
answer_next s (Arp n bytes) reply s1 calm is = arp_next s n bytes reply is
answer_next s (Resolve n) reply s1 calm is = resolve_next s n reply (port_of s n) is
answer_next s (Packet n bytes) reply s1 calm is = packet_next s n bytes reply (port_of s n) is
answer_next s (Frame n bytes) reply s1 calm is = frame_next s n bytes reply (port_of s n) is
answer_next s Recompile reply s1 calm is = ap (next s Recompile) is
answer_next s (Work units) reply s1 calm is = absurd (cc)
answer_next s Table reply s1 calm is = ap (next s Table) is

builds_nothing : (e : Event) → is_quiet e ≡ true → is_building e ≡ false
builds_nothing (Take name count) calm = refl
builds_nothing (Drain name) calm = refl
builds_nothing (Work units) calm = refl
builds_nothing e calm = cc

pub quiet_lines_are_accepted : QuietLinesAreAccepted
quiet_lines_are_accepted s e reply steady formed other none calm answer =
    let step : QuietStep s (after s e) = quiet_step s e none formed other calm in
    let is : next s e reply ≡ after s e = answer_next s e reply (next s e reply) calm answer ∙ (λ i. record (after s e) { table = sym (step_table s step) i }) in
    let accepted : IsAccepted s e reply = record { answer = answer; sound = subst IsSound (sym is) (sound_after s step steady (quiet_new s step steady.new)) } in
    (is, subst (λ o. FitsBy o s e reply) (sym none) (subst (λ b. Passes b s e reply) (sym (builds_nothing e calm)) accepted))
