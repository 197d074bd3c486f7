-- What a line does to the state, where no refusal stops it: it gives the pool, declares, changes the routes or a policy, takes
-- what is pending, or has routers resolve addresses.
use Rattle.std.proofs.Common.{◌≡◌, ℕ, ◌≤◌, ◌<◌, Bool, true, false, cond, ◌&&◌, nat_le, nat_lt, List, [], ◌∷◌, ◌++◌, length, sym, ap, subst, ◌∙◌, refl, inl, inr}
use Rattle.std.specs.Prelude.{Option, Some, None, Result, Ok, Err, slice_set, take}
use Rattle.std.specs.FinMap.{FinMap}
use Rattle.std.specs.Option.{option_map_or}
use Rattle.std.proofs.lemmas.Bool.{leb-false}
use Rattle.events.proofs.Reached.{declared_pid, set_length}
use Rattle.events.specs.After.{after, received_by, restarted, running, sent_by, settled, with_known, with_named, with_outbound, with_participant, with_port, with_told}
use Rattle.events.specs.Fits.{is_building, is_of_job}
use Rattle.events.specs.Forms.{IsWellFormed}
use Rattle.events.specs.Pending.{pending, with_all_news}
use Rattle.events.specs.Refusals.{if_short, inbound_refusal, is_name_taken, is_placed, is_port_taken, isolation_refusal, outbound_refusal, policy_refusal, refusal, refused_if, tags_refusal}
use Rattle.events.specs.Resolving.{is_pool_request, port_place, resolved_at, unresolved, with_answer, with_resolved}
use Rattle.events.specs.State.{State, owner_of, port_of, present, told_to}
use Rattle.events.specs.Tags.{retagged}
use Rattle.events.specs.declared.Entry.{Entry}
use Rattle.events.specs.declared.Event.{Event}
use Rattle.events.specs.declared.Event.TheVariants.{Bad, Exchange, Participant as DeclaresParticipant, Port as DeclaresPort, Update, Down, Export, Outbound, Inbound, Take, Drain, Arp, Resolve, Packet, Frame, Recompile, Work, Table}
use Rattle.events.specs.declared.Phase.{Phase}
use Rattle.events.specs.declared.Phase.TheVariants.{Start, Declaring, Running}
use Rattle.events.specs.declared.Refusal.{Refusal}
use Rattle.events.specs.declared.Refusal.TheVariants.{Clash, Full, TextLong, TooWide}
use Rattle.exchange_laws.proofs.Lists.{clash}
use Rattle.exchange_laws.proofs.OwnHops.{Member_set}
use Rattle.exchange_laws.proofs.Rerouted.{Rerouted, known, neither, not_stopped, passes, rerouted}
use Rattle.exchange_laws.proofs.ToldAnew.{news_are_known, present_are_known}
use Rattle.exchange_laws.specs.Rerouting.{is_rerouting}
use Rattle.exchange_laws.specs.Telling.{AreKnownTo}
use Rattle.grammar.specs.TextReading.{Fault as Misread}
use Rattle.net_types.proofs.OrderLemmas.{ips_total}
use Rattle.net_types.proofs.OrderedLemmas.{ordered_rises}
use Rattle.net_types.proofs.TieLemmas.{same_from_tie, ip_cmp-IsAntisymmetric}
use Rattle.net_types.specs.Arp.{asked_ip, asker_mac}
use Rattle.net_types.specs.Exports.{pid_of}
use Rattle.net_types.specs.Isolation.{in_faults, out_faults}
use Rattle.net_types.specs.Keys.{ip_cmp, is_ip_before, prefix_cmp}
use Rattle.net_types.specs.Maps.{ordered}
use Rattle.net_types.specs.Naming.{named_in}
use Rattle.net_types.specs.Octets.{same_octets}
use Rattle.net_types.specs.Policies.{Policy}
use Rattle.net_types.specs.PolicyReading.{policy_of_text}
use Rattle.net_types.specs.Sets.{IsRising, Member}
use Rattle.net_types.specs.Widths.{is_too_wide}
use Rattle.net_types.specs.declared.address.Ip.{Ip}
use Rattle.net_types.specs.declared.address.Mac.{Mac}
use Rattle.net_types.specs.declared.address.Pid.{Pid}
use Rattle.net_types.specs.declared.address.PortNo.{PortNo}
use Rattle.net_types.specs.declared.isolation.IsolateFault.{IsolateFault}
use Rattle.net_types.specs.declared.route.Participant.{Participant}
use Rattle.net_types.specs.declared.route.PortInfo.{PortInfo}

-- no line that builds rules is a job's
pub building_other : (e : Event) → is_building e ≡ true → is_of_job e ≡ false
building_other Recompile building = cc
building_other (Work units) building = cc
building_other Bad building = refl
building_other (Exchange base size capacity) building = refl
building_other (DeclaresParticipant name asn id) building = refl
building_other (DeclaresPort name number ip mac) building = refl
building_other (Update name bytes) building = refl
building_other (Down name) building = refl
building_other (Export name text) building = refl
building_other (Outbound name text) building = refl
building_other (Inbound name text) building = refl
building_other (Take name count) building = refl
building_other (Drain name) building = refl
building_other (Arp n bytes) building = refl
building_other (Resolve n) building = refl
building_other (Packet n bytes) building = refl
building_other (Frame n bytes) building = refl
building_other Table building = refl

-- each list of addresses ascends
abbrev pub AllRise : List (List Ip) → Type 0
AllRise lists = (ips : List Ip) → Member ips lists → IsRising is_ip_before ips

-- the state with its pool
abbrev pub with_pool : State → Ip → ℕ → ℕ → State
with_pool s base size capacity = record s { phase = Declaring; base = base; size = size; capacity = capacity }

-- the running state with other resolved addresses
abbrev pub resolving : State → List (List Ip) → State
resolving s lists = record s { phase = Running; resolved = lists }

-- a line that changes neither routes nor what was told
pub data QuietStep (s : State) : State → Type 0 where
  pool : (base : Ip) (size capacity : ℕ) → s.phase ≡ Start → IsWellFormed (Exchange base size capacity) → QuietStep s (with_pool s base size capacity)
  participant : (m : Participant) → s.phase ≡ Declaring → length s.routing.participants < 256 → QuietStep s (with_participant s m)
  port : (q : PortInfo) → s.phase ≡ Declaring → q.owner.0 < length s.routing.participants → is_port_taken s q.number q.ip q.mac ≡ false → (1 ≤ q.number.0) × (q.number.0 ≤ 65279) → QuietStep s (with_port s q)
  resolved : (lists : List (List Ip)) → (s.phase ≡ Start → ⊥) → length lists ≡ length s.resolved → (AllRise s.resolved → AllRise lists) → QuietStep s (resolving s lists)

-- the state in which a participant was told just these, without the signatures that are live no more
abbrev pub told_so : State → Pid → FinMap prefix_cmp Entry → State
told_so s who entries = settled (running (with_told s who entries))

-- the state with another outbound policy, which names these
abbrev pub sending : State → Pid → List ℕ → List Pid → State
sending s who text named = restarted (retagged (with_outbound s who text named) (with_named s.routing who named))

-- the state with another inbound policy
abbrev pub receiving : State → Pid → List ℕ → State
receiving s who text = restarted (running (record s { inbound = slice_set s.inbound who.0 text }))

-- ---- phases

pub at_start : (phase : Phase) (base : Ip) (size capacity : ℕ) → is_placed phase (Exchange base size capacity) ≡ true → phase ≡ Start
at_start Start base size capacity e = refl
at_start Declaring base size capacity e = cc
at_start Running base size capacity e = cc

pub declares_participant : (phase : Phase) (name : List ℕ) (asn : ℕ) (id : Ip) → is_placed phase (DeclaresParticipant name asn id) ≡ true → phase ≡ Declaring
declares_participant Start name asn id e = cc
declares_participant Declaring name asn id e = refl
declares_participant Running name asn id e = cc

declares_port : (s : State) (phase : Phase) (name : List ℕ) (q : PortInfo) → is_placed phase (DeclaresPort name q.number q.ip q.mac) ≡ true → phase ≡ Declaring
declares_port s Start name q e = cc
declares_port s Declaring name q e = refl
declares_port s Running name q e = cc

not_at_start : (s : State) (e : Event) → is_placed Start e ≡ false → is_placed s.phase e ≡ true → s.phase ≡ Start → ⊥
not_at_start s e out placed start = clash placed (ap (λ phase. is_placed phase e) start ∙ out)

-- ---- resolved addresses

set_rise : (lists : List (List Ip)) (k : ℕ) (ips : List Ip) → AllRise lists → AllRise (slice_set lists k (ordered ip_cmp ips))
set_rise lists k ips rising list m = elim (Member_set lists k (ordered ip_cmp ips) list m) [
  | inl there ↦ rising list there
  | inr here ↦ subst (IsRising is_ip_before) (sym here) (ordered_rises ip_cmp ips_total (same_from_tie ip_cmp ip_cmp-IsAntisymmetric) ips)
]

same_resolved : (s : State) → (s.phase ≡ Start → ⊥) → QuietStep s (running s)
same_resolved s later = resolved s.resolved later refl (λ rising. rising)

more_resolved : (s : State) (n : PortNo) (ips : List Ip) → (s.phase ≡ Start → ⊥) → QuietStep s (running (with_resolved s n ips))
more_resolved s n ips later = at (port_place s n)
  where
    at : (o : Option ℕ) → QuietStep s (running (option_map_or (λ place. let x : State = record s { resolved = slice_set s.resolved place (ordered ip_cmp (resolved_at s n ++ ips)) } in x) o s))
    at None = same_resolved s later
    at (Some place) =
        resolved (slice_set s.resolved place (ordered ip_cmp (resolved_at s n ++ ips))) later (set_length s.resolved place (ordered ip_cmp (resolved_at s n ++ ips))) (set_rise s.resolved place (resolved_at s n ++ ips))

answer_resolved : (s : State) (q : PortInfo) (frame : List ℕ) → (s.phase ≡ Start → ⊥) → QuietStep s (running (with_answer s q frame))
answer_resolved s q frame later = by (is_pool_request s frame && same_octets (asker_mac frame).0 q.mac.0)
  where
    by : (b : Bool) → QuietStep s (running (cond b (with_resolved s q.number (asked_ip frame ∷ [])) s))
    by true = more_resolved s q.number (asked_ip frame ∷ []) later
    by false = same_resolved s later

-- ---- lines

-- the state after a line that knows what it speaks of
after_known : {X : Type 0} (s : State) (o : Option X) (f : X → State) (x : X) → o ≡ Some x → QuietStep s (f x) → QuietStep s (with_known s o f)
after_known s o f x is step = subst (λ y. QuietStep s (with_known s y f)) (sym is) step

pub exchange_step : (s : State) (base : Ip) (size capacity : ℕ) → refusal s (Exchange base size capacity) ≡ None → IsWellFormed (Exchange base size capacity) → QuietStep s (after s (Exchange base size capacity))
exchange_step s base size capacity none formed = pool base size capacity (at_start s.phase base size capacity (passes s (Exchange base size capacity) none).0) formed

pub participant_step : (s : State) (name : List ℕ) (asn : ℕ) (id : Ip) → refusal s (DeclaresParticipant name asn id) ≡ None → QuietStep s (after s (DeclaresParticipant name asn id))
participant_step s name asn id none =
    let free = passes s (DeclaresParticipant name asn id) none in
    let full : nat_le 256 (length s.routing.participants) ≡ false = not_stopped (nat_le 256 (length s.routing.participants)) Full (neither (refused_if (is_name_taken s name) Clash) (refused_if (nat_le 256 (length s.routing.participants)) Full) free.1).1 in
    participant (record { name = name; asn = asn; id = id }) (declares_participant s.phase name asn id free.0) (leb-false 256 (length s.routing.participants) full)

pub port_step : (s : State) (name : List ℕ) (number : PortNo) (ip : Ip) (mac : Mac) → refusal s (DeclaresPort name number ip mac) ≡ None → IsWellFormed (DeclaresPort name number ip mac) → QuietStep s (after s (DeclaresPort name number ip mac))
port_step s name number ip mac none formed =
    let free = passes s (DeclaresPort name number ip mac) none in
    let who = known (pid_of s.routing name) (λ w. refused_if (is_port_taken s number ip mac) Clash) free.1 in
    let q : PortInfo = record { owner = who.0; number = number; ip = ip; mac = mac } in
    after_known s (pid_of s.routing name) (λ w. with_port s (record { owner = w; number = number; ip = ip; mac = mac })) who.0 who.1
    (port q (declares_port s s.phase name q free.0) (declared_pid s.routing name who.0 who.1) (not_stopped (is_port_taken s number ip mac) Clash who.2) (formed.1, formed.2))

pub arp_step : (s : State) (n : PortNo) (bytes : List ℕ) → refusal s (Arp n bytes) ≡ None → QuietStep s (after s (Arp n bytes))
arp_step s n bytes none =
    let free = passes s (Arp n bytes) none in
    let q = known (port_of s n) (λ x. None) free.1 in
    after_known s (port_of s n) (λ x. running (with_answer s x bytes)) q.0 q.1 (answer_resolved s q.0 bytes (not_at_start s (Arp n bytes) refl free.0))

pub resolve_step : (s : State) (n : PortNo) → refusal s (Resolve n) ≡ None → QuietStep s (after s (Resolve n))
resolve_step s n none =
    let free = passes s (Resolve n) none in
    let q = known (port_of s n) (λ x. None) free.1 in
    after_known s (port_of s n) (λ x. running (with_resolved s n (unresolved s x))) q.0 q.1 (more_resolved s n (unresolved s q.0) (not_at_start s (Resolve n) refl free.0))

-- a line that runs the exchange and changes nothing else
pub running_step : (s : State) (e : Event) → is_placed Start e ≡ false → refusal s e ≡ None → QuietStep s (running s)
running_step s e out none = same_resolved s (not_at_start s e out (passes s e none).0)

-- what a line does that no refusal stops
pub data Step (s : State) (e : Event) : State → Type 0 where
  quiet : (s1 : State) → QuietStep s s1 → Step s e s1
  routes : (after : Rerouted s e) → (s.phase ≡ Start → ⊥) → Step s e (retagged s after.routing)
  told : (who : Pid) (entries : FinMap prefix_cmp Entry) → (s.phase ≡ Start → ⊥) → AreKnownTo s who entries → Step s e (told_so s who entries)
  sends : (who : Pid) (text : List ℕ) (p : Policy) → (s.phase ≡ Start → ⊥) → policy_of_text text ≡ Ok p → out_faults (pid_of s.routing) (owner_of s) who p ≡ []
      → Step s e (sending s who text (named_in (pid_of s.routing) p))
  receives : (who : Pid) (text : List ℕ) (p : Policy) → (s.phase ≡ Start → ⊥) → policy_of_text text ≡ Ok p → in_faults (owner_of s) who p ≡ [] → Step s e (receiving s who text)

rerouting_step : (s : State) (e : Event) → is_rerouting e ≡ true → is_placed Start e ≡ false → refusal s e ≡ None → Step s e (after s e)
rerouting_step s e rerouting out none =
    let r = rerouted s e rerouting none in
    subst (Step s e) (sym r.leaves) (routes r (not_at_start s e out (passes s e none).0))

drain_step : (s : State) (name : List ℕ) → refusal s (Drain name) ≡ None → Step s (Drain name) (after s (Drain name))
drain_step s name none =
    let free = passes s (Drain name) none in
    let who = known (pid_of s.routing name) (λ w. None) free.1 in
    subst (λ o. Step s (Drain name) (with_known s o (λ w. told_so s w (present s w)))) (sym who.1)
    (told who.0 (present s who.0) (not_at_start s (Drain name) refl free.0) (present_are_known s who.0))

take_step : (s : State) (name : List ℕ) (count : ℕ) → refusal s (Take name count) ≡ None → Step s (Take name count) (after s (Take name count))
take_step s name count none =
    let free = passes s (Take name count) none in
    let who = known (pid_of s.routing name) (λ w. None) free.1 in
    let entries : Pid → FinMap prefix_cmp Entry = λ w. with_all_news (present s w) (told_to s w) (take count (pending s w)) in
    subst (λ o. Step s (Take name count) (with_known s o (λ w. told_so s w (entries w)))) (sym who.1)
    (told who.0 (entries who.0) (not_at_start s (Take name count) refl free.0) (news_are_known s who.0 (take count (pending s who.0))))

-- ---- policies

-- a text that isn't too long
pub short : (b : Bool) (o : Option Refusal) → cond b (Some TextLong) o ≡ None → o ≡ None
short true o none = absurd (cc)
short false o none = none

pub no_faults : (faults : List IsolateFault) → isolation_refusal faults ≡ None → faults ≡ []
no_faults [] none = refl
no_faults (fault ∷ faults) none = absurd (cc)

-- what isolation and the widths don't refuse has no fault
pub no_fault : (faults : List IsolateFault) (p : Policy) → policy_refusal faults p ≡ None → faults ≡ []
no_fault faults p none = no_faults faults (neither (isolation_refusal faults) (refused_if (is_too_wide p) TooWide) none).0

sends_read : (s : State) (e : Event) (who : Pid) (text : List ℕ) (o : Result Policy Misread) → (s.phase ≡ Start → ⊥) → policy_of_text text ≡ o → outbound_refusal s who text o ≡ None → Step s e (sent_by s who text o)
sends_read s e who text (Err fault) later read none = absurd (cc)
sends_read s e who text (Ok p) later read none =
    let named : List Pid = named_in (pid_of s.routing) p in
    let faults : List IsolateFault = out_faults (pid_of s.routing) (owner_of s) who p in
    sends who text p later read (no_fault faults p (neither (policy_refusal faults p) (tags_refusal (with_outbound s who text named) (with_named s.routing who named)) none).0)

receives_read : (s : State) (e : Event) (who : Pid) (text : List ℕ) (o : Result Policy Misread) → (s.phase ≡ Start → ⊥) → policy_of_text text ≡ o → inbound_refusal s who o ≡ None → Step s e (received_by s who text o)
receives_read s e who text (Err fault) later read none = absurd (cc)
receives_read s e who text (Ok p) later read none = receives who text p later read (no_fault (in_faults (owner_of s) who p) p none)

outbound_step : (s : State) (name text : List ℕ) → refusal s (Outbound name text) ≡ None → Step s (Outbound name text) (after s (Outbound name text))
outbound_step s name text none =
    let e : Event = Outbound name text in
    let free = passes s e none in
    let refuses : Pid → Option Refusal = λ w. outbound_refusal s w text (policy_of_text text) in
    let who = known (pid_of s.routing name) (λ w. if_short text (refuses w)) free.1 in
    subst (λ o. Step s e (with_known s o (λ w. sent_by s w text (policy_of_text text)))) (sym who.1)
    (sends_read s e who.0 text (policy_of_text text) (not_at_start s e refl free.0) refl (short (nat_lt 8192 (length text)) (refuses who.0) who.2))

inbound_step : (s : State) (name text : List ℕ) → refusal s (Inbound name text) ≡ None → Step s (Inbound name text) (after s (Inbound name text))
inbound_step s name text none =
    let e : Event = Inbound name text in
    let free = passes s e none in
    let refuses : Pid → Option Refusal = λ w. inbound_refusal s w (policy_of_text text) in
    let who = known (pid_of s.routing name) (λ w. if_short text (refuses w)) free.1 in
    subst (λ o. Step s e (with_known s o (λ w. received_by s w text (policy_of_text text)))) (sym who.1)
    (receives_read s e who.0 text (policy_of_text text) (not_at_start s e refl free.0) refl (short (nat_lt 8192 (length text)) (refuses who.0) who.2))

-- ---- each line

pub step_of : (s : State) (e : Event) → refusal s e ≡ None → IsWellFormed e → is_of_job e ≡ false → Step s e (after s e)
step_of s Bad none formed other = absurd (let never = (passes s Bad none).1 in cc)
step_of s (Exchange base size capacity) none formed other = quiet _ (exchange_step s base size capacity none formed)
step_of s (DeclaresParticipant name asn id) none formed other = quiet _ (participant_step s name asn id none)
step_of s (DeclaresPort name number ip mac) none formed other = quiet _ (port_step s name number ip mac none formed)
step_of s (Update name bytes) none formed other = rerouting_step s (Update name bytes) refl refl none
step_of s (Down name) none formed other = rerouting_step s (Down name) refl refl none
step_of s (Export name text) none formed other = rerouting_step s (Export name text) refl refl none
step_of s (Outbound name text) none formed other = outbound_step s name text none
step_of s (Inbound name text) none formed other = inbound_step s name text none
step_of s (Take name count) none formed other = take_step s name count none
step_of s (Drain name) none formed other = drain_step s name none
step_of s (Arp n bytes) none formed other = quiet _ (arp_step s n bytes none)
step_of s (Resolve n) none formed other = quiet _ (resolve_step s n none)
step_of s (Packet n bytes) none formed other = quiet _ (running_step s (Packet n bytes) refl none)
step_of s (Frame n bytes) none formed other = quiet _ (running_step s (Frame n bytes) refl none)
step_of s Recompile none formed other = absurd (cc)
step_of s (Work units) none formed other = absurd (cc)
step_of s Table none formed other = quiet _ (running_step s Table refl none)
