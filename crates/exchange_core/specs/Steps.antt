-- How many steps a line takes at most: one for each pair whose rules it builds (this exchange's own rule).
use Rattle.std.specs.Prelude.{ℕ, ◌+◌, ◌*◌, Bool, List, length, filter, Option, Some, None, Result, Ok, Err}
use Rattle.std.specs.Option.{option_map_or}
use Rattle.grammar.specs.TextReading.{Fault as Misread}
use Rattle.events.specs.After.{after, with_named, with_outbound}
use Rattle.events.specs.Fits.{is_receivers, is_senders}
use Rattle.events.specs.Refusals.{refusal}
use Rattle.events.specs.State.{State}
use Rattle.events.specs.Tags.{groups, live_pairs}
use Rattle.events.specs.declared.Event.{Event}
use Rattle.events.specs.declared.Event.TheVariants.{Bad, Exchange, Participant as DeclaresParticipant, Port as DeclaresPort, Update, Down, Export, Outbound, Inbound, Take, Drain, Arp, Resolve, Packet, Frame, Recompile, Work, Table}
use Rattle.events.specs.declared.Refusal.{Refusal}
use Rattle.net_types.specs.Exports.{Routing, pid_of}
use Rattle.net_types.specs.Naming.{named_in}
use Rattle.net_types.specs.Policies.{Policy}
use Rattle.net_types.specs.PolicyReading.{policy_of_text}
use Rattle.net_types.specs.declared.address.Pid.{Pid}
use Rattle.net_types.specs.declared.rule.Pair.{Pair}

-- the fresh tags of a line that leads to a routing, each at each port
abbrev pub fresh_count : State → Routing → ℕ
fresh_count s r = length s.routing.ports * length (groups s r)

-- the live pairs of a state that pass a test
abbrev pub live_among : State → (Pair → Bool) → ℕ
live_among s test = length (filter test (live_pairs s))

-- The most pairs that an outbound policy builds, as it was read, where the line leaves this state: the live pairs of the
-- sender's ports, and those of fresh tags.
abbrev pub sent_count : State → State → List ℕ → Result Policy Misread → Pid → ℕ
sent_count s s' text (Err fault) who = 0
sent_count s s' text (Ok p) who = let named = named_in (pid_of s.routing) p in fresh_count (with_outbound s who text named) (with_named s.routing who named) + live_among s' (is_senders s' who)

-- the most pairs that a line builds that isn't refused: none, where it builds no rules
abbrev pub built_count : State → Event → ℕ
built_count s (Update name bytes) = fresh_count s (after s (Update name bytes)).routing
built_count s (Down name) = fresh_count s (after s (Down name)).routing
built_count s (Export name text) = fresh_count s (after s (Export name text)).routing
built_count s (Outbound name text) = option_map_or (sent_count s (after s (Outbound name text)) text (policy_of_text text)) (pid_of s.routing name) 0
built_count s (Inbound name text) = option_map_or (λ who. live_among (after s (Inbound name text)) (is_receivers s who)) (pid_of s.routing name) 0
built_count s Bad = 0
built_count s (Exchange base size capacity) = 0
built_count s (DeclaresParticipant name asn id) = 0
built_count s (DeclaresPort name number ip mac) = 0
built_count s (Take name count) = 0
built_count s (Drain name) = 0
built_count s (Arp port bytes) = 0
built_count s (Resolve port) = 0
built_count s (Packet port bytes) = 0
built_count s (Frame port bytes) = 0
built_count s Recompile = 0
built_count s (Work units) = 0
built_count s Table = 0

-- a line that is refused before rules are built builds none
abbrev pub bound_by : Option Refusal → ℕ → ℕ
bound_by (Some why) count = 0
bound_by None count = count

-- how many steps a line takes at most
abbrev pub step_bound : State → Event → ℕ
step_bound s e = bound_by (refusal s e) (built_count s e)
