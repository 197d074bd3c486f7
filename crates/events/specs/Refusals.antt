-- The refusals, in the order in which their conditions are looked at (this exchange's own rule).
use Rattle.std.specs.Prelude.{ℕ, Bool, true, false, ◌&&◌, ◌||◌, not, nat_eq, nat_le, nat_lt, List, [], ◌∷◌, length, take, Option, Some, None, Result, Ok, Err, is_none, is_some, if◌then◌else◌}
use Rattle.std.specs.List.{list_any}
use Rattle.grammar.specs.TextReading.{Fault as Misread, Wrong, Deep}
use Rattle.net_types.specs.Arp.{no_mac}
use Rattle.net_types.specs.Attributes.{same_option}
use Rattle.net_types.specs.ExportReading.{rules_of_text}
use Rattle.net_types.specs.ExportTexts.{bound}
use Rattle.net_types.specs.Exports.{Routing, asn_of, pid_of}
use Rattle.net_types.specs.Frames.{has_headers, framed}
use Rattle.net_types.specs.Isolation.{in_faults, out_faults}
use Rattle.net_types.specs.Naming.{named_in}
use Rattle.net_types.specs.Octets.{same_octets}
use Rattle.net_types.specs.Policies.{Policy}
use Rattle.net_types.specs.PolicyReading.{policy_of_text}
use Rattle.net_types.specs.Widths.{is_too_wide}
use Rattle.net_types.specs.UpdateReading.{decoded}
use Rattle.net_types.specs.declared.update.Fault.{Fault}
use Rattle.net_types.specs.declared.update.Update.{Update as Message}
use Rattle.net_types.specs.declared.isolation.IsolateFault.{IsolateFault}
use Rattle.net_types.specs.declared.address.Ip.{Ip}
use Rattle.net_types.specs.declared.address.Mac.{Mac}
use Rattle.net_types.specs.declared.address.Pid.{Pid}
use Rattle.net_types.specs.declared.address.PortNo.{PortNo}
use Rattle.net_types.specs.declared.export.ExportRule.{ExportRule}
use Rattle.net_types.specs.declared.named_rule.NamedRule.{NamedRule}
use Rattle.net_types.specs.declared.route.Attrs.{Attrs}
use Rattle.net_types.specs.declared.route.PortInfo.{PortInfo}
use Rattle.events.specs.declared.Event.{Event}
use Rattle.events.specs.declared.Event.TheVariants.{Bad, Exchange, Participant as DeclaresParticipant, Port as DeclaresPort, Update, Down, Export, Outbound, Inbound, Take, Drain, Arp, Resolve, Packet, Frame, Recompile, Work, Table}
use Rattle.events.specs.declared.Phase.{Phase}
use Rattle.events.specs.declared.Phase.TheVariants.{Start, Declaring, Running}
use Rattle.events.specs.declared.Refusal.{Refusal}
use Rattle.events.specs.declared.Refusal.TheVariants.{BadLine, Misplaced, Unknown, Clash, Full, BadUpdate, FirstAs, NextHop, Oversize, TextLong, Syntax, TooDeep, Isolate, TooWide, NoNextHop, BadPacket}
use Rattle.events.specs.After.{with_named, with_outbound, with_rules, with_update, without_from}
use Rattle.events.specs.Resolving.{is_in_pool}
use Rattle.events.specs.State.{State, owner_of, port_of}
use Rattle.events.specs.Tags.{free_tags, groups}
use Rattle.net_types.specs.Updates.{first_as, is_oversize}

-- which lines are in place in a phase: only `exchange` at the start, then all but `exchange`, and after the declarations
-- neither `participant` nor `port`
abbrev pub is_placed : Phase → Event → Bool
is_placed phase Bad = true
is_placed Start (Exchange base size capacity) = true
is_placed Declaring (Exchange base size capacity) = false
is_placed Running (Exchange base size capacity) = false
is_placed Start (DeclaresParticipant name asn id) = false
is_placed Declaring (DeclaresParticipant name asn id) = true
is_placed Running (DeclaresParticipant name asn id) = false
is_placed Start (DeclaresPort name number ip mac) = false
is_placed Declaring (DeclaresPort name number ip mac) = true
is_placed Running (DeclaresPort name number ip mac) = false
is_placed Start (Update name bytes) = false
is_placed Declaring (Update name bytes) = true
is_placed Running (Update name bytes) = true
is_placed Start (Down name) = false
is_placed Declaring (Down name) = true
is_placed Running (Down name) = true
is_placed Start (Export name text) = false
is_placed Declaring (Export name text) = true
is_placed Running (Export name text) = true
is_placed Start (Outbound name text) = false
is_placed Declaring (Outbound name text) = true
is_placed Running (Outbound name text) = true
is_placed Start (Inbound name text) = false
is_placed Declaring (Inbound name text) = true
is_placed Running (Inbound name text) = true
is_placed Start (Take name count) = false
is_placed Declaring (Take name count) = true
is_placed Running (Take name count) = true
is_placed Start (Drain name) = false
is_placed Declaring (Drain name) = true
is_placed Running (Drain name) = true
is_placed Start (Packet port bytes) = false
is_placed Declaring (Packet port bytes) = true
is_placed Running (Packet port bytes) = true
is_placed Start (Arp port bytes) = false
is_placed Declaring (Arp port bytes) = true
is_placed Running (Arp port bytes) = true
is_placed Start (Resolve port) = false
is_placed Declaring (Resolve port) = true
is_placed Running (Resolve port) = true
is_placed Start (Frame port bytes) = false
is_placed Declaring (Frame port bytes) = true
is_placed Running (Frame port bytes) = true
is_placed Start Table = false
is_placed Declaring Table = true
is_placed Running Table = true
is_placed Start Recompile = false
is_placed Declaring Recompile = true
is_placed Running Recompile = true
is_placed Start (Work units) = false
is_placed Declaring (Work units) = true
is_placed Running (Work units) = true

-- while a job runs no other one is started, and without one there is no work
abbrev pub suits_job : Option ℕ → Event → Bool
suits_job owed Recompile = is_none owed
suits_job owed (Work units) = is_some owed
suits_job owed Bad = true
suits_job owed (Exchange base size capacity) = true
suits_job owed (DeclaresParticipant name asn id) = true
suits_job owed (DeclaresPort name number ip mac) = true
suits_job owed (Update name bytes) = true
suits_job owed (Down name) = true
suits_job owed (Export name text) = true
suits_job owed (Outbound name text) = true
suits_job owed (Inbound name text) = true
suits_job owed (Take name count) = true
suits_job owed (Drain name) = true
suits_job owed (Arp port bytes) = true
suits_job owed (Resolve port) = true
suits_job owed (Packet port bytes) = true
suits_job owed (Frame port bytes) = true
suits_job owed Table = true

-- a participant has the name
abbrev pub is_name_taken : State → List ℕ → Bool
is_name_taken s name = is_some (pid_of s.routing name)

-- a port's number, its address or its MAC is taken, or lies in the pool or among the MACs of tags
abbrev pub is_port_taken : State → PortNo → Ip → Mac → Bool
is_port_taken s number ip mac =
    list_any (λ (q : PortInfo). nat_eq q.number.0 number.0 || nat_eq q.ip.0 ip.0 || same_octets q.mac.0 mac.0) s.routing.ports
    || is_in_pool s ip || same_octets (take 3 mac.0) (2 ∷ 83 ∷ 68 ∷ [])

-- an address is one of a participant's ports
abbrev pub has_next_hop : State → Pid → Ip → Bool
has_next_hop s who ip = list_any (λ (q : PortInfo). nat_eq q.owner.0 who.0 && nat_eq q.ip.0 ip.0) s.routing.ports

-- the refusal where the test holds
abbrev pub refused_if : Bool → Refusal → Option Refusal
refused_if true refusal = Some refusal
refused_if false refusal = None

-- with this routing more fresh tags are needed than are free
abbrev pub tags_refusal : State → Routing → Option Refusal
tags_refusal s r = refused_if (nat_lt (length (free_tags s)) (length (groups s r))) (NoNextHop (length (groups s r)) (length (free_tags s)))

-- the first refusal of two
abbrev pub or_else : Option Refusal → Option Refusal → Option Refusal
or_else None b = b
or_else (Some a) b = Some a

-- where something is announced, the path begins with the announcer's AS, and NEXT_HOP is at one of its ports
abbrev pub attrs_refusal : State → Pid → Option Attrs → Option Refusal
attrs_refusal s who None = None
attrs_refusal s who (Some attrs) =
    or_else (refused_if (not (same_option nat_eq (first_as attrs.path) (Some (asn_of s.routing who)))) FirstAs)
    (refused_if (not (has_next_hop s who attrs.next_hop)) NextHop)

-- the first refusal of what was read of an UPDATE
abbrev pub update_refusal : State → Pid → Result Message Fault → Option Refusal
update_refusal s who (Err fault) = Some (BadUpdate fault)
update_refusal s who (Ok u) = or_else (attrs_refusal s who u.attrs) (or_else (refused_if (is_oversize u) Oversize) (tags_refusal s (with_update s.routing who u)))

-- the first refusal of rules, where each name in them is declared
abbrev pub bound_refusal : State → Pid → Option (List ExportRule) → Option Refusal
bound_refusal s who None = Some Unknown
bound_refusal s who (Some rules) = tags_refusal s (with_rules s.routing who rules)

-- the first refusal of what was read of a text of rules
abbrev pub rules_refusal : State → Pid → Result (List NamedRule) ℕ → Option Refusal
rules_refusal s who (Err at) = Some (Syntax at)
rules_refusal s who (Ok rules) = bound_refusal s who (bound (pid_of s.routing) rules)

-- a text has at most 8192 octets
abbrev pub if_short : List ℕ → Option Refusal → Option Refusal
if_short text refused = if nat_lt 8192 (length text) then Some TextLong else refused

-- the first refusal of a text of rules
abbrev pub text_refusal : State → Pid → List ℕ → Option Refusal
text_refusal s who text = if_short text (rules_refusal s who (rules_of_text text))

-- a text of a policy that wasn't read: where it is wrong, or where it opens one group too many
abbrev pub misread_refusal : Misread → Refusal
misread_refusal (Wrong at) = Syntax at
misread_refusal (Deep at) = TooDeep at

-- the first part of a policy that breaks isolation
abbrev pub isolation_refusal : List IsolateFault → Option Refusal
isolation_refusal [] = None
isolation_refusal (fault ∷ faults) = Some (Isolate fault.kind fault.span.start fault.span.end)

-- the first refusal of a policy with these faults
abbrev pub policy_refusal : List IsolateFault → Policy → Option Refusal
policy_refusal faults p = or_else (isolation_refusal faults) (refused_if (is_too_wide p) TooWide)

-- the first refusal of an outbound policy as it was read
abbrev pub outbound_refusal : State → Pid → List ℕ → Result Policy Misread → Option Refusal
outbound_refusal s who text (Err fault) = Some (misread_refusal fault)
outbound_refusal s who text (Ok p) =
    let named = named_in (pid_of s.routing) p in
    or_else (policy_refusal (out_faults (pid_of s.routing) (owner_of s) who p) p) (tags_refusal (with_outbound s who text named) (with_named s.routing who named))

-- the first refusal of an inbound policy as it was read
abbrev pub inbound_refusal : State → Pid → Result Policy Misread → Option Refusal
inbound_refusal s who (Err fault) = Some (misread_refusal fault)
inbound_refusal s who (Ok p) = policy_refusal (in_faults (owner_of s) who p) p

-- a datagram has headers where it is put into a frame, whatever the MACs
abbrev pub is_datagram : List ℕ → Bool
is_datagram bytes = has_headers (framed no_mac no_mac bytes)

-- what isn't declared is unknown
abbrev pub if_known : {X : Type 0} → Option X → (X → Option Refusal) → Option Refusal
if_known None f = Some Unknown
if_known (Some x) f = f x

-- the first refusal of a line that is in place
abbrev pub refusal_in_place : State → Event → Option Refusal
refusal_in_place s Bad = Some BadLine
refusal_in_place s (Exchange base size capacity) = None
refusal_in_place s (DeclaresParticipant name asn id) = or_else (refused_if (is_name_taken s name) Clash) (refused_if (nat_le 256 (length s.routing.participants)) Full)
refusal_in_place s (DeclaresPort name number ip mac) = if_known (pid_of s.routing name) (λ who. refused_if (is_port_taken s number ip mac) Clash)
refusal_in_place s (Update name bytes) = if_known (pid_of s.routing name) (λ who. update_refusal s who (decoded bytes))
refusal_in_place s (Down name) = if_known (pid_of s.routing name) (λ who. tags_refusal s (without_from s.routing who))
refusal_in_place s (Export name text) = if_known (pid_of s.routing name) (λ who. text_refusal s who text)
refusal_in_place s (Outbound name text) = if_known (pid_of s.routing name) (λ who. if_short text (outbound_refusal s who text (policy_of_text text)))
refusal_in_place s (Inbound name text) = if_known (pid_of s.routing name) (λ who. if_short text (inbound_refusal s who (policy_of_text text)))
refusal_in_place s (Take name count) = if_known (pid_of s.routing name) (λ who. None)
refusal_in_place s (Drain name) = if_known (pid_of s.routing name) (λ who. None)
refusal_in_place s (Arp port bytes) = if_known (port_of s port) (λ q. None)
refusal_in_place s (Resolve port) = if_known (port_of s port) (λ q. None)
refusal_in_place s (Packet port bytes) = if_known (port_of s port) (λ q. refused_if (not (is_datagram bytes)) BadPacket)
refusal_in_place s (Frame port bytes) = if_known (port_of s port) (λ q. None)
refusal_in_place s Recompile = None
refusal_in_place s (Work units) = None
refusal_in_place s Table = None

-- the first refusal whose condition holds
abbrev pub refusal : State → Event → Option Refusal
refusal s e = if suits_job s.owed e && is_placed s.phase e then refusal_in_place s e else Some Misplaced
