-- Each port keeps its MAC.
use Rattle.std.proofs.Common.{◌≡◌, ℕ, ◌-◌, Bool, true, false, cond, ◌&&◌, nat_lt, List, [], ◌∷◌, ◌++◌, sym, subst, refl, inl, inr}
use Rattle.std.specs.Prelude.{Option, Some, None, Result, Ok, Err, slice_set, take}
use Rattle.std.specs.Option.{option_map_or}
use Rattle.events.specs.After.{after, bound_read, merged, received_by, ruled, running, sent_by, settled, taken, updated, with_known, with_port, with_told, without_from, worked}
use Rattle.events.specs.Pending.{pending}
use Rattle.events.specs.Resolving.{is_pool_request, port_place, resolved_at, unresolved, with_answer, with_resolved}
use Rattle.events.specs.State.{State, port_of, present}
use Rattle.events.specs.Tags.{retagged}
use Rattle.events.specs.declared.Event.{Event}
use Rattle.events.specs.declared.Event.TheVariants.{Bad, Exchange, Participant as DeclaresParticipant, Port as DeclaresPort, Update, Down, Export, Outbound, Inbound, Take, Drain, Arp, Resolve, Packet, Frame, Recompile, Work, Table}
use Rattle.exchange_laws.specs.Octets.{IsMac}
use Rattle.grammar.specs.TextReading.{Fault as Misread}
use Rattle.net_types.proofs.SetLemmas.{Member-append_cases}
use Rattle.net_types.specs.Arp.{asked_ip, asker_mac}
use Rattle.net_types.specs.ExportReading.{rules_of_text}
use Rattle.net_types.specs.Exports.{pid_of}
use Rattle.net_types.specs.Keys.{ip_cmp}
use Rattle.net_types.specs.Maps.{ordered}
use Rattle.net_types.specs.Octets.{same_octets}
use Rattle.net_types.specs.Policies.{Policy}
use Rattle.net_types.specs.PolicyReading.{policy_of_text}
use Rattle.net_types.specs.Sets.{Member}
use Rattle.net_types.specs.UpdateReading.{decoded}
use Rattle.net_types.specs.declared.address.Ip.{Ip}
use Rattle.net_types.specs.declared.address.Pid.{Pid}
use Rattle.net_types.specs.declared.address.PortNo.{PortNo}
use Rattle.net_types.specs.declared.export.ExportRule.{ExportRule}
use Rattle.net_types.specs.declared.route.PortInfo.{PortInfo}
use Rattle.net_types.specs.declared.update.Fault.{Fault}
use Rattle.net_types.specs.declared.update.Update.{Update as Message}
use Rattle.reply_laws.proofs.NextStates.{next_holds}
use Rattle.reply_laws.specs.Replying.{HasOctets, PortsHaveMacs, PortsKeepMacs}

-- ---- ports

-- the same ports are declared
abbrev HasPorts : State → State → Type 0
HasPorts s s1 = s1.routing.ports ≡ s.routing.ports

known_ports : {X : Type 0} (s : State) (k : Option X) (f : X → State) → ((x : X) → HasPorts s (f x)) → HasPorts s (with_known s k f)
known_ports s None f is = refl
known_ports s (Some x) f is = is x

updated_ports : (s : State) (who : Pid) (read : Result Message Fault) → HasPorts s (updated s who read)
updated_ports s who (Ok u) = refl
updated_ports s who (Err fault) = refl

ruled_ports : (s : State) (who : Pid) (rules : Option (List ExportRule)) → HasPorts s (ruled s who rules)
ruled_ports s who (Some rules) = refl
ruled_ports s who None = refl

sent_ports : (s : State) (who : Pid) (text : List ℕ) (read : Result Policy Misread) → HasPorts s (sent_by s who text read)
sent_ports s who text (Ok p) = refl
sent_ports s who text (Err fault) = refl

received_ports : (s : State) (who : Pid) (text : List ℕ) (read : Result Policy Misread) → HasPorts s (received_by s who text read)
received_ports s who text (Ok p) = refl
received_ports s who text (Err fault) = refl

resolved_ports : (s : State) (n : PortNo) (ips : List Ip) → HasPorts s (running (with_resolved s n ips))
resolved_ports s n ips = by (port_place s n)
  where
    by : (place : Option ℕ) → HasPorts s (running (option_map_or (λ k. let x : State = record s { resolved = slice_set s.resolved k (ordered ip_cmp (resolved_at s n ++ ips)) } in x) place s))
    by None = refl
    by (Some place) = refl

answer_ports : (s : State) (q : PortInfo) (bytes : List ℕ) → HasPorts s (running (with_answer s q bytes))
answer_ports s q bytes = by (is_pool_request s bytes && same_octets (asker_mac bytes).0 q.mac.0)
  where
    by : (b : Bool) → HasPorts s (running (cond b (with_resolved s q.number (asked_ip bytes ∷ [])) s))
    by true = resolved_ports s q.number (asked_ip bytes ∷ [])
    by false = refl

worked_ports : (s : State) (units owed : ℕ) → HasPorts s (worked s units owed)
worked_ports s units owed = by (nat_lt units owed)
  where
    by : (b : Bool) → HasPorts s (cond b (running (record s { owed = Some (owed - units) })) (merged s))
    by true = refl
    by false = refl

known_macs : {X : Type 0} (s : State) (k : Option X) (f : X → State) → PortsHaveMacs s → ((x : X) → HasPorts s (f x)) → PortsHaveMacs (with_known s k f)
known_macs s k f macs is q m = macs q (subst (Member q) (known_ports s k f is) m)

port_macs : (s : State) (q : PortInfo) → PortsHaveMacs s → IsMac q.mac → PortsHaveMacs (with_port s q)
port_macs s q macs mac x m = elim (Member-append_cases s.routing.ports (q ∷ []) x m) [
  | inl there ↦ macs x there
  | inr here ↦ elim here [ inl same ↦ subst (λ (y : PortInfo). IsMac y.mac) (sym same) mac | inr none ↦ absurd none ]
]

declared_macs : (s : State) (k : Option Pid) (f : Pid → PortInfo) → PortsHaveMacs s → ((who : Pid) → IsMac (f who).mac) → PortsHaveMacs (with_known s k (λ who. with_port s (f who)))
declared_macs s None f macs mac = macs
declared_macs s (Some who) f macs mac = port_macs s (f who) macs (mac who)

after_macs : (s : State) (e : Event) → PortsHaveMacs s → HasOctets e → PortsHaveMacs (after s e)
after_macs s Bad macs octets = macs
after_macs s (Exchange base size capacity) macs octets = macs
after_macs s (DeclaresParticipant name asn id) macs octets = macs
after_macs s (DeclaresPort name number ip mac) macs octets = declared_macs s (pid_of s.routing name) (λ who. record { owner = who; number = number; ip = ip; mac = mac }) macs (λ who. octets)
after_macs s (Update name bytes) macs octets = known_macs s (pid_of s.routing name) (λ who. updated s who (decoded bytes)) macs (λ who. updated_ports s who (decoded bytes))
after_macs s (Down name) macs octets = known_macs s (pid_of s.routing name) (λ who. retagged s (without_from s.routing who)) macs (λ who. refl)
after_macs s (Export name text) macs octets =
    let read : Option (List ExportRule) = bound_read s.routing (rules_of_text text) in known_macs s (pid_of s.routing name) (λ who. ruled s who read) macs (λ who. ruled_ports s who read)
after_macs s (Outbound name text) macs octets = known_macs s (pid_of s.routing name) (λ who. sent_by s who text (policy_of_text text)) macs (λ who. sent_ports s who text (policy_of_text text))
after_macs s (Inbound name text) macs octets = known_macs s (pid_of s.routing name) (λ who. received_by s who text (policy_of_text text)) macs (λ who. received_ports s who text (policy_of_text text))
after_macs s (Take name count) macs octets = known_macs s (pid_of s.routing name) (λ who. settled (running (taken s who (take count (pending s who))))) macs (λ who. refl)
after_macs s (Drain name) macs octets = known_macs s (pid_of s.routing name) (λ who. settled (running (with_told s who (present s who)))) macs (λ who. refl)
after_macs s (Arp n bytes) macs octets = known_macs s (port_of s n) (λ q. running (with_answer s q bytes)) macs (λ q. answer_ports s q bytes)
after_macs s (Resolve n) macs octets = known_macs s (port_of s n) (λ q. running (with_resolved s n (unresolved s q))) macs (λ q. resolved_ports s n (unresolved s q))
after_macs s (Packet n bytes) macs octets = macs
after_macs s (Frame n bytes) macs octets = macs
after_macs s Recompile macs octets = macs
after_macs s (Work units) macs octets = known_macs s s.owed (worked s units) macs (λ owed. worked_ports s units owed)
after_macs s Table macs octets = macs

pub ports_keep_macs : PortsKeepMacs
ports_keep_macs s e r macs octets = next_holds PortsHaveMacs s e r r.head macs (after_macs s e macs octets)
