-- What a job owes after each line.
use Rattle.std.proofs.Common.{◌≡◌, ℕ, ◌+◌, ◌≤◌, Bool, true, false, cond, ◌&&◌, nat_lt, List, [], ◌∷◌, ◌++◌, length, ap, subst, ◌∙◌, refl, arith}
use Rattle.std.specs.Prelude.{Option, Some, None, Result, Ok, Err, slice_set, take}
use Rattle.std.specs.Option.{option_map, option_map_or}
use Rattle.std.proofs.lemmas.Bool.{ltb-false}
use Rattle.events.specs.After.{after, all_units, bound_read, received_by, ruled, running, sent_by, settled, taken, updated, with_known, with_named, with_outbound, with_port, with_told, without_from}
use Rattle.events.specs.Fits.{is_of_job}
use Rattle.events.specs.Pending.{pending}
use Rattle.events.specs.Refusals.{if_short, inbound_refusal, outbound_refusal}
use Rattle.events.specs.Resolving.{is_pool_request, port_place, resolved_at, unresolved, with_answer, with_resolved}
use Rattle.events.specs.State.{State, port_of, present}
use Rattle.events.specs.Tags.{capped, carried, live_pairs, more_units, retagged}
use Rattle.events.specs.declared.Event.{Event}
use Rattle.events.specs.declared.Event.TheVariants.{Bad, Exchange, Participant as DeclaresParticipant, Port as DeclaresPort, Update, Down, Export, Outbound, Inbound, Take, Drain, Arp, Resolve, Packet, Frame, Recompile, Work, Table}
use Rattle.events.specs.declared.Refusal.{Refusal}
use Rattle.exchange_laws.proofs.LineSteps.{short}
use Rattle.exchange_laws.proofs.Rerouted.{known, passes}
use Rattle.grammar.specs.TextReading.{Fault as Misread}
use Rattle.job_laws.specs.Steps.{UnitsAreAdded, UnitsStartAnew, UnitsStay}
use Rattle.net_types.specs.ExportReading.{rules_of_text}
use Rattle.net_types.specs.Exports.{Routing, pid_of}
use Rattle.net_types.specs.Keys.{ip_cmp}
use Rattle.net_types.specs.Maps.{ordered}
use Rattle.net_types.specs.Octets.{same_octets}
use Rattle.net_types.specs.Arp.{asked_ip, asker_mac}
use Rattle.net_types.specs.Naming.{named_in}
use Rattle.net_types.specs.Policies.{Policy}
use Rattle.net_types.specs.PolicyReading.{policy_of_text}
use Rattle.net_types.specs.UpdateReading.{decoded}
use Rattle.net_types.specs.declared.address.Ip.{Ip}
use Rattle.net_types.specs.declared.address.Pid.{Pid}
use Rattle.net_types.specs.declared.address.PortNo.{PortNo}
use Rattle.net_types.specs.declared.export.ExportRule.{ExportRule}
use Rattle.net_types.specs.declared.route.PortInfo.{PortInfo}
use Rattle.net_types.specs.declared.update.Fault.{Fault}
use Rattle.net_types.specs.declared.update.Update.{Update as Message}

-- ---- lines that build no rules

known_owed : {X : Type 0} (s : State) (k : Option X) (f : X → State) → ((x : X) → (f x).owed ≡ s.owed) → (with_known s k f).owed ≡ s.owed
known_owed s None f is = refl
known_owed s (Some x) f is = is x

resolved_owed : (s : State) (n : PortNo) (ips : List Ip) → (running (with_resolved s n ips)).owed ≡ s.owed
resolved_owed s n ips = by (port_place s n)
  where
    by : (place : Option ℕ) → (running (option_map_or (λ k. let x : State = record s { resolved = slice_set s.resolved k (ordered ip_cmp (resolved_at s n ++ ips)) } in x) place s)).owed ≡ s.owed
    by None = refl
    by (Some place) = refl

answer_owed : (s : State) (q : PortInfo) (bytes : List ℕ) → (running (with_answer s q bytes)).owed ≡ s.owed
answer_owed s q bytes = by (is_pool_request s bytes && same_octets (asker_mac bytes).0 q.mac.0)
  where
    by : (b : Bool) → (running (cond b (with_resolved s q.number (asked_ip bytes ∷ [])) s)).owed ≡ s.owed
    by true = resolved_owed s q.number (asked_ip bytes ∷ [])
    by false = refl

pub units_stay : UnitsStay
units_stay s Bad other quiet = refl
units_stay s (Exchange base size capacity) other quiet = refl
units_stay s (DeclaresParticipant name asn id) other quiet = refl
units_stay s (DeclaresPort name number ip mac) other quiet = known_owed s (pid_of s.routing name) (λ who. with_port s (record { owner = who; number = number; ip = ip; mac = mac })) (λ who. refl)
units_stay s (Take name count) other quiet = known_owed s (pid_of s.routing name) (λ who. settled (running (taken s who (take count (pending s who))))) (λ who. refl)
units_stay s (Drain name) other quiet = known_owed s (pid_of s.routing name) (λ who. settled (running (with_told s who (present s who)))) (λ who. refl)
units_stay s (Arp n bytes) other quiet = known_owed s (port_of s n) (λ q. running (with_answer s q bytes)) (λ q. answer_owed s q bytes)
units_stay s (Resolve n) other quiet = known_owed s (port_of s n) (λ q. running (with_resolved s n (unresolved s q))) (λ q. resolved_owed s n (unresolved s q))
units_stay s (Packet n bytes) other quiet = refl
units_stay s (Frame n bytes) other quiet = refl
units_stay s Table other quiet = refl
units_stay s e other quiet = absurd (cc)

-- ---- lines that build rules

pub units_are_added : UnitsAreAdded
units_are_added s e r is = ap (λ (x : State). x.owed) is.leaves

-- a job that runs begins anew, whatever it owed
restarted_twice : (f : ℕ → ℕ) (n : ℕ) (o : Option ℕ) → option_map (λ m. n) (option_map f o) ≡ option_map (λ m. n) o
restarted_twice f n None = refl
restarted_twice f n (Some m) = refl

-- it owes all units of the state that a line leaves
abbrev OwesAll : State → State → Type 0
OwesAll s s1 = s1.owed ≡ option_map (λ n. all_units s1) s.owed

sent_owes : (s : State) (who : Pid) (text : List ℕ) (p : Policy) → OwesAll s (sent_by s who text (Ok p))
sent_owes s who text p =
    let named : List Pid = named_in (pid_of s.routing) p in
    let s0 : State = with_outbound s who text named in
    let r : Routing = with_named s.routing who named in
    restarted_twice (λ n. capped (n + more_units s0 r)) (all_units (retagged s0 r)) s.owed

read_owes : (s : State) (who : Pid) (text : List ℕ) (o : Result Policy Misread) → outbound_refusal s who text o ≡ None → OwesAll s (sent_by s who text o)
read_owes s who text (Err fault) free = absurd (cc)
read_owes s who text (Ok p) free = sent_owes s who text p

received_owes : (s : State) (who : Pid) (text : List ℕ) (o : Result Policy Misread) → inbound_refusal s who o ≡ None → OwesAll s (received_by s who text o)
received_owes s who text (Err fault) free = absurd (cc)
received_owes s who text (Ok p) free = refl

known_owes : (s : State) (k : Option Pid) (f : Pid → State) (who : Pid) → k ≡ Some who → OwesAll s (f who) → OwesAll s (with_known s k f)
known_owes s None f who declared is = absurd (cc)
known_owes s (Some w) f who declared is = subst (λ x. OwesAll s (f x)) (let same : who ≡ w = cc in same) is

pub units_start_anew : UnitsStartAnew
units_start_anew s (Outbound name text) none building other =
    let refuses : Pid → Option Refusal = λ w. outbound_refusal s w text (policy_of_text text) in
    let k = known (pid_of s.routing name) (λ w. if_short text (refuses w)) (passes s (Outbound name text) none).1 in
    known_owes s (pid_of s.routing name) (λ w. sent_by s w text (policy_of_text text)) k.0 k.1 (read_owes s k.0 text (policy_of_text text) (short (nat_lt 8192 (length text)) (refuses k.0) k.2))
units_start_anew s (Inbound name text) none building other =
    let refuses : Pid → Option Refusal = λ w. inbound_refusal s w (policy_of_text text) in
    let k = known (pid_of s.routing name) (λ w. if_short text (refuses w)) (passes s (Inbound name text) none).1 in
    known_owes s (pid_of s.routing name) (λ w. received_by s w text (policy_of_text text)) k.0 k.1 (received_owes s k.0 text (policy_of_text text) (short (nat_lt 8192 (length text)) (refuses k.0) k.2))
units_start_anew s e none building other = absurd (cc)

-- ---- how much a job owes

pub capped_few : (n : ℕ) → capped n ≤ 1125899906842624
capped_few n = by (nat_lt 1125899906842624 n) refl
  where
    by : (b : Bool) → nat_lt 1125899906842624 n ≡ b → cond b 1125899906842624 n ≤ 1125899906842624
    by true over = omega arith
    by false few = ltb-false 1125899906842624 n few

-- a line that isn't a job's leaves no job where there was none, and one that owes few where there was one
pub record IsOwedAfter (s s1 : State) : Type 0 where
  pub change : ℕ → ℕ
  pub is : s1.owed ≡ option_map change s.owed
  pub few : (n : ℕ) → n ≤ 1125899906842624 → change n ≤ 1125899906842624

stays : (s s1 : State) → s1.owed ≡ s.owed → IsOwedAfter s s1
stays s s1 same = record { change = λ n. n; is = same ∙ by s.owed; few = λ n few. few }
  where
    by : (o : Option ℕ) → o ≡ option_map (λ n. n) o
    by None = refl
    by (Some n) = refl

anew : (s s1 : State) → OwesAll s s1 → IsOwedAfter s s1
anew s s1 all = record { change = λ n. all_units s1; is = all; few = λ n few. capped_few (length (carried s1.routing) + length (live_pairs s1)) }

retagged_after : (s : State) (r : Routing) → IsOwedAfter s (retagged s r)
retagged_after s r = record { change = λ n. capped (n + more_units s r); is = refl; few = λ n few. capped_few (n + more_units s r) }

known_after : {X : Type 0} (s : State) (k : Option X) (f : X → State) → ((x : X) → IsOwedAfter s (f x)) → IsOwedAfter s (with_known s k f)
known_after s None f is = stays s s refl
known_after s (Some x) f is = is x

updated_after : (s : State) (who : Pid) (read : Result Message Fault) → IsOwedAfter s (updated s who read)
updated_after s who (Ok u) = retagged_after s _
updated_after s who (Err fault) = stays s s refl

ruled_after : (s : State) (who : Pid) (rules : Option (List ExportRule)) → IsOwedAfter s (ruled s who rules)
ruled_after s who (Some rules) = retagged_after s _
ruled_after s who None = stays s s refl

sent_after : (s : State) (who : Pid) (text : List ℕ) (read : Result Policy Misread) → IsOwedAfter s (sent_by s who text read)
sent_after s who text (Ok p) = anew s (sent_by s who text (Ok p)) (sent_owes s who text p)
sent_after s who text (Err fault) = stays s s refl

received_after : (s : State) (who : Pid) (text : List ℕ) (read : Result Policy Misread) → IsOwedAfter s (received_by s who text read)
received_after s who text (Ok p) = anew s (received_by s who text (Ok p)) refl
received_after s who text (Err fault) = stays s s refl

pub owed_after : (s : State) (e : Event) → is_of_job e ≡ false → IsOwedAfter s (after s e)
owed_after s (Update name bytes) other = known_after s (pid_of s.routing name) (λ who. updated s who (decoded bytes)) (λ who. updated_after s who (decoded bytes))
owed_after s (Down name) other = known_after s (pid_of s.routing name) (λ who. retagged s (without_from s.routing who)) (λ who. retagged_after s (without_from s.routing who))
owed_after s (Export name text) other =
    let read : Option (List ExportRule) = bound_read s.routing (rules_of_text text) in known_after s (pid_of s.routing name) (λ who. ruled s who read) (λ who. ruled_after s who read)
owed_after s (Outbound name text) other = known_after s (pid_of s.routing name) (λ who. sent_by s who text (policy_of_text text)) (λ who. sent_after s who text (policy_of_text text))
owed_after s (Inbound name text) other = known_after s (pid_of s.routing name) (λ who. received_by s who text (policy_of_text text)) (λ who. received_after s who text (policy_of_text text))
owed_after s Bad other = stays s _ (units_stay s Bad other refl)
owed_after s (Exchange base size capacity) other = stays s _ (units_stay s (Exchange base size capacity) other refl)
owed_after s (DeclaresParticipant name asn id) other = stays s _ (units_stay s (DeclaresParticipant name asn id) other refl)
owed_after s (DeclaresPort name number ip mac) other = stays s _ (units_stay s (DeclaresPort name number ip mac) other refl)
owed_after s (Take name count) other = stays s _ (units_stay s (Take name count) other refl)
owed_after s (Drain name) other = stays s _ (units_stay s (Drain name) other refl)
owed_after s (Arp n bytes) other = stays s _ (units_stay s (Arp n bytes) other refl)
owed_after s (Resolve n) other = stays s _ (units_stay s (Resolve n) other refl)
owed_after s (Packet n bytes) other = stays s _ (units_stay s (Packet n bytes) other refl)
owed_after s (Frame n bytes) other = stays s _ (units_stay s (Frame n bytes) other refl)
owed_after s Recompile other = absurd (cc)
owed_after s (Work units) other = absurd (cc)
owed_after s Table other = stays s _ (units_stay s Table other refl)
