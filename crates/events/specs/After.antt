-- The state after a line (this exchange's own rule).
use Rattle.std.specs.Prelude.{ℕ, ◌+◌, ◌-◌, nat_lt, List, [], ◌∷◌, ◌++◌, length, filter, take, codes, slice_set, Option, Some, None, Result, Ok, Err, unwrap_or, if◌then◌else◌}
use Rattle.std.specs.FinMap.{FinMap, empty, get, insert, keys, remove, retain_keys}
use Rattle.std.specs.List.{filter_map}
use Rattle.std.specs.Option.{option_map}
use Rattle.grammar.specs.TextReading.{Fault as Misread}
use Rattle.net_types.specs.Attributes.{same_signature}
use Rattle.net_types.specs.Changes as changes
use Rattle.net_types.specs.ExportReading.{rules_of_text}
use Rattle.net_types.specs.ExportTexts.{bound}
use Rattle.net_types.specs.Exports.{Routing, pid_of}
use Rattle.net_types.specs.Keys.{pair_cmp, prefix_cmp, tag_cmp}
use Rattle.net_types.specs.Maps.{ordered, tabulate}
use Rattle.net_types.specs.Naming.{named_in}
use Rattle.net_types.specs.Policies.{Policy}
use Rattle.net_types.specs.PolicyReading.{policy_of_text}
use Rattle.net_types.specs.Routes.{first_of_list}
use Rattle.net_types.specs.Signatures.{signature, trimmed}
use Rattle.net_types.specs.UpdateReading.{decoded}
use Rattle.net_types.specs.declared.address.Pid.{Pid}
use Rattle.net_types.specs.declared.export.ExportRule.{ExportRule}
use Rattle.net_types.specs.declared.named_rule.NamedRule.{NamedRule}
use Rattle.net_types.specs.declared.route.Participant.{Participant}
use Rattle.net_types.specs.declared.address.Tag.{Tag}
use Rattle.net_types.specs.declared.prefix.Prefix.{Prefix}
use Rattle.net_types.specs.declared.route.Part.{Part}
use Rattle.net_types.specs.declared.route.PortInfo.{PortInfo}
use Rattle.net_types.specs.declared.update.Fault.{Fault}
use Rattle.net_types.specs.declared.update.Update.{Update as Message}
use Rattle.net_types.specs.declared.rule.Pair.{Pair}
use Rattle.net_types.specs.declared.rule.Rule.{Rule}
use Rattle.events.specs.declared.Event.{Event}
use Rattle.events.specs.declared.Event.TheVariants.{Bad, Exchange, Participant as DeclaresParticipant, Port as DeclaresPort, Update, Down, Export, Outbound, Inbound, Take, Drain, Arp, Resolve, Packet, Frame, Recompile, Work, Table}
use Rattle.events.specs.declared.Flow.{Flow}
use Rattle.events.specs.declared.Head.{Head}
use Rattle.events.specs.declared.Head.TheVariants.{Fine, Working, Finished, Unrouted, Unresolved, Silent, Refused}
use Rattle.events.specs.declared.Phase.TheVariants.{Declaring, Running}
use Rattle.events.specs.declared.Reply.{Reply}
use Rattle.events.specs.Resolving.{unresolved, with_answer, with_resolved}
use Rattle.events.specs.Pending.{pending, with_all_news}
use Rattle.events.specs.State.{State, Entry, port_of, present, told_to}
use Rattle.events.specs.Tags.{capped, carried, is_live, live_pairs, retagged}

-- the state with a further participant, whose policies drop, and name nobody
abbrev pub with_participant : State → Participant → State
with_participant s m = record s {
  routing = record s.routing { participants = s.routing.participants ++ m ∷ []; rules = s.routing.rules ++ [] ∷ []; named = s.routing.named ++ [] ∷ [] };
  outbound = s.outbound ++ codes "drop" ∷ [];
  inbound = s.inbound ++ codes "drop" ∷ [];
  told = s.told ++ empty ∷ [];
}

-- the state with a further port, whose router has resolved nothing
abbrev pub with_port : State → PortInfo → State
with_port s q = record s {
  routing = record s.routing { ports = s.routing.ports ++ q ∷ [] };
  resolved = s.resolved ++ [] ∷ [];
}

-- an update withdraws, and then announces (RFC 4271 3.1, 9)
abbrev pub with_update : Routing → Pid → Message → Routing
with_update r from u = record r { routes = changes.updated from u r.routes }

-- the routing without a participant's routes
abbrev pub without_from : Routing → Pid → Routing
without_from r from = record r { routes = changes.without_routes from r.routes }

-- the routing with these export rules of a participant in place of its earlier ones
abbrev pub with_rules : Routing → Pid → List ExportRule → Routing
with_rules r from rules = record r { rules = slice_set r.rules from.0 rules }

-- the routing with these participants named by a participant's outbound policy, in place of its earlier ones
abbrev pub with_named : Routing → Pid → List Pid → Routing
with_named r who named = record r { named = slice_set r.named who.0 named }

-- the rules that were read, with the participants that they name; none where the text is wrong or a name isn't declared
abbrev pub bound_read : Routing → Result (List NamedRule) ℕ → Option (List ExportRule)
bound_read r (Ok rules) = bound (pid_of r) rules
bound_read r (Err at) = None

-- the state after what was read of an UPDATE; octets that are none change nothing
abbrev pub updated : State → Pid → Result Message Fault → State
updated s who (Ok u) = retagged s (with_update s.routing who u)
updated s who (Err fault) = s

-- the state after these export rules; where there are none nothing changes
abbrev pub ruled : State → Pid → Option (List ExportRule) → State
ruled s who (Some rules) = retagged s (with_rules s.routing who rules)
ruled s who None = s

-- the state in which a participant was told just these
abbrev pub with_told : State → Pid → FinMap prefix_cmp Entry → State
with_told s who entries = record s { told = slice_set s.told who.0 entries }

-- the state in which a participant was told what is present for it of these prefixes
abbrev pub taken : State → Pid → List Prefix → State
taken s who ps = with_told s who (with_all_news (present s who) (told_to s who) ps)

-- the first accepted line that declares nothing ends the declarations
abbrev pub running : State → State
running s = record s { phase = Running }

-- every kept signature without the offers to a sender that count no more by these names
abbrev pub trimmed_kept : State → Pid → List Pid → FinMap tag_cmp (List Part)
trimmed_kept s who named = tabulate tag_cmp (keys s.kept) (λ t. option_map (trimmed who named) (get s.kept t))

-- a job that owes a unit for each carried prefix and each live pair
abbrev pub all_units : State → ℕ
all_units s = capped (length (carried s.routing) + length (live_pairs s))

-- a job that runs begins anew
abbrev pub restarted : State → State
restarted s = record s { owed = option_map (λ n. all_units s) s.owed }

-- the state with another outbound policy, before the tags that come of it: the kept signatures are trimmed
abbrev pub with_outbound : State → Pid → List ℕ → List Pid → State
with_outbound s who text named = record s { outbound = slice_set s.outbound who.0 text; kept = trimmed_kept s who named }

-- the state after another outbound policy, as it was read; a text that is none changes nothing
abbrev pub sent_by : State → Pid → List ℕ → Result Policy Misread → State
sent_by s who text (Err fault) = s
sent_by s who text (Ok p) =
    let named = named_in (pid_of s.routing) p in restarted (retagged (with_outbound s who text named) (with_named s.routing who named))

-- the state after another inbound policy, as it was read; a text that is none changes nothing
abbrev pub received_by : State → Pid → List ℕ → Result Policy Misread → State
received_by s who text (Err fault) = s
received_by s who text (Ok p) = restarted (running (record s { inbound = slice_set s.inbound who.0 text }))

-- a tag that is live no more is kept no more
abbrev pub settled : State → State
settled s = record s { kept = retain_keys s.kept (is_live s) }

-- the least tag of the carried prefixes with a signature
abbrev pub least_tag : State → List Part → Option Tag
least_tag s sig = first_of_list (ordered tag_cmp (filter_map (get s.tag) (filter (λ p. same_signature (signature s.routing p) sig) (carried s.routing))))

-- the state after a job: each carried prefix has the least tag of the carried prefixes with its signature
abbrev pub merged : State → State
merged s = settled (running (record s { tag = tabulate prefix_cmp (carried s.routing) (λ p. least_tag s (signature s.routing p)); owed = None }))

-- the state after units of a job: it owes fewer, or ends where it owes no more than these
abbrev pub worked : State → ℕ → ℕ → State
worked s units owed = if nat_lt units owed then running (record s { owed = Some (owed - units) }) else merged s

-- what becomes of a state where something is known
abbrev pub with_known : {X : Type 0} → State → Option X → (X → State) → State
with_known s None f = s
with_known s (Some x) f = f x

-- the state after an accepted line, but for the table
abbrev pub after : State → Event → State
after s Bad = s
after s (Exchange base size capacity) = record s { phase = Declaring; base = base; size = size; capacity = capacity }
after s (DeclaresParticipant name asn id) = with_participant s (record { name = name; asn = asn; id = id })
after s (DeclaresPort name number ip mac) = with_known s (pid_of s.routing name) (λ who. with_port s (record { owner = who; number = number; ip = ip; mac = mac }))
after s (Update name bytes) = with_known s (pid_of s.routing name) (λ who. updated s who (decoded bytes))
after s (Down name) = with_known s (pid_of s.routing name) (λ who. retagged s (without_from s.routing who))
after s (Export name text) = with_known s (pid_of s.routing name) (λ who. ruled s who (bound_read s.routing (rules_of_text text)))
after s (Outbound name text) = with_known s (pid_of s.routing name) (λ who. sent_by s who text (policy_of_text text))
after s (Inbound name text) = with_known s (pid_of s.routing name) (λ who. received_by s who text (policy_of_text text))
after s (Take name count) = with_known s (pid_of s.routing name) (λ who. settled (running (taken s who (take count (pending s who)))))
after s (Drain name) = with_known s (pid_of s.routing name) (λ who. settled (running (with_told s who (present s who))))
after s (Arp port bytes) = with_known s (port_of s port) (λ q. running (with_answer s q bytes))
after s (Resolve port) = with_known s (port_of s port) (λ q. running (with_resolved s port (unresolved s q)))
after s (Packet port bytes) = running s
after s (Frame port bytes) = running s
after s Recompile = running (record s { owed = Some (all_units s) })
after s (Work units) = with_known s s.owed (worked s units)
after s Table = running s

-- a rule is put behind those of its pair
abbrev pub put_flow : FinMap pair_cmp (List Rule) → Flow → FinMap pair_cmp (List Rule)
put_flow table f = insert table f.pair (unwrap_or (get table f.pair) [] ++ f.rule ∷ [])

-- each rule in turn
abbrev pub put_flows : FinMap pair_cmp (List Rule) → List Flow → FinMap pair_cmp (List Rule)
put_flows table [] = table
put_flows table (f ∷ fs) = put_flows (put_flow table f) fs

-- the table without the rules of these pairs
abbrev pub without_pairs : FinMap pair_cmp (List Rule) → List Pair → FinMap pair_cmp (List Rule)
without_pairs table [] = table
without_pairs table (q ∷ qs) = without_pairs (remove table q) qs

-- the rules that a reply puts into the table; those of the line `table` are there already
abbrev pub rules_put : Event → Reply → List Flow
rules_put Table r = []
rules_put e r = r.adds

-- the state after an accepted line: the pairs dropped are taken out of the table, and then the rules added are put in
abbrev pub accepted : State → Event → Reply → State
accepted s e r = record (after s e) { table = put_flows (without_pairs s.table r.drops) (rules_put e r) }

-- a refusal changes nothing
abbrev pub next_by : Head → State → Event → Reply → State
next_by (Refused refusal) s e r = s
next_by Fine s e r = accepted s e r
next_by (Working units) s e r = accepted s e r
next_by Finished s e r = accepted s e r
next_by Unrouted s e r = accepted s e r
next_by (Unresolved ip) s e r = accepted s e r
next_by Silent s e r = accepted s e r

-- the state after a line and its reply
abbrev pub next : State → Event → Reply → State
next s e r = next_by r.head s e r
