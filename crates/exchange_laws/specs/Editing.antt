-- Lines that build rules: an UPDATE, a participant whose routes go, export rules, and policies (this exchange's own rule).
use Rattle.std.specs.Prelude.{◌≡◌, ℕ, ◌<◌, ◌≤◌, Bool, true, nat_eq, List, length, filter, slice_set, Ok, Some, None}
use Rattle.std.specs.FinMap.{FinMap}
use Rattle.std.specs.List.{list_any}
use Rattle.events.specs.After.{after, next, with_named, with_outbound}
use Rattle.events.specs.Fits.{Fits, IsAnswer, IsBuilt, is_building, is_receivers, is_senders, none_rebuilt}
use Rattle.events.specs.Refusals.{refusal}
use Rattle.events.specs.Sound.{HopsAreOwn, rule_count}
use Rattle.events.specs.State.{State}
use Rattle.events.specs.Tags.{retagged}
use Rattle.events.specs.declared.Event.{Event}
use Rattle.events.specs.declared.Event.TheVariants.{Outbound, Inbound}
use Rattle.events.specs.declared.Reply.{Reply}
use Rattle.exchange_laws.specs.Replies.{HasNewRules}
use Rattle.exchange_laws.specs.Rerouting.{IsRerouting}
use Rattle.exchange_laws.specs.Retagging.{KeptAreLive, LiveAreKept, TagsArePooled}
use Rattle.exchange_laws.specs.Rules.{AreRightBut, IsChange, IsTableAfter, IsTagged, OwnersAreDeclared}
use Rattle.exchange_laws.specs.Steady.{IsSized, IsSteady, PortsAreNumbered, PortsDiffer}
use Rattle.exchange_laws.specs.Whole.{KeptAreWhole, RoutesAreDeclared}
use Rattle.net_types.specs.Exports.{Routing, named_by, pid_of}
use Rattle.net_types.specs.Keys.{pair_cmp}
use Rattle.net_types.specs.Naming.{named_in}
use Rattle.net_types.specs.Policies.{Policy}
use Rattle.net_types.specs.PolicyReading.{policy_of_text}
use Rattle.net_types.specs.declared.address.Pid.{Pid}
use Rattle.net_types.specs.declared.rule.Pair.{Pair}
use Rattle.net_types.specs.declared.rule.Rule.{Rule}

-- What holds of a state on which a line builds rules: all that the line needs of a steady state, but that the rules of the
-- pairs that are built anew may be wrong.
pub record IsBase (s : State) (is_rebuilt : Pair → Bool) : Type 0 where
  pub tagged : IsTagged s
  pub right : AreRightBut s is_rebuilt
  pub few : rule_count s ≤ s.capacity
  pub pooled : TagsArePooled s
  pub kept : KeptAreLive s
  pub live : LiveAreKept s
  pub whole : KeptAreWhole s
  pub owners : OwnersAreDeclared s.routing
  pub routed : RoutesAreDeclared s.routing
  pub hops : HopsAreOwn s
  pub told : length s.told ≡ length s.routing.participants
  pub outbound : length s.outbound ≡ length s.routing.participants
  pub inbound : length s.inbound ≡ length s.routing.participants
  pub named : length s.routing.named ≡ length s.routing.participants
  pub apart : PortsDiffer s.routing.ports
  pub numbered : PortsAreNumbered s.routing.ports
  pub idle : s.owed ≡ None
  pub sized : IsSized s

-- those of the first participants that are among the second
abbrev pub both : List Pid → List Pid → List Pid
both old new = filter (λ (p : Pid). list_any (λ (q : Pid). nat_eq q.0 p.0) new) old

-- The state on which another outbound policy builds: with its text, the kept signatures trimmed by whom it names, and of the
-- participants that were named before those that still are. So the signatures that are kept are those of its routing.
abbrev pub outbound_base : State → Pid → List ℕ → List Pid → State
outbound_base s who text named = record (with_outbound s who text named) { routing = with_named s.routing who (both (named_by s.routing who) named) }

-- the state on which another inbound policy builds: with its text
abbrev pub inbound_base : State → Pid → List ℕ → State
inbound_base s who text = record s { inbound = slice_set s.inbound who.0 text }

-- A line that no refusal stops builds rules on a state, whose routes become these, and builds these pairs anew: the table and
-- the tags are still those before the line, and the reply that tells what becomes of them answers it.
pub record IsEdit (s : State) (e : Event) (s0 : State) (r : Routing) (is_rebuilt : Pair → Bool) : Type 0 where
  pub passes : refusal s e ≡ None
  pub building : is_building e ≡ true
  pub leaves : after s e ≡ retagged s0 r
  pub table : s0.table ≡ s.table
  pub tag : s0.tag ≡ s.tag
  pub capacity : s0.capacity ≡ s.capacity
  pub answers : (table : FinMap pair_cmp (List Rule)) (reply : Reply) → IsBuilt s0 (record (retagged s0 r) { table = table }) is_rebuilt reply → IsAnswer s e reply (record (retagged s0 r) { table = table })

-- It is accepted with the reply that says what is dropped and added, where the rules fit the table, and the state is the one
-- with the new routes and rules.
abbrev pub EditsAreAccepted : Type 0
EditsAreAccepted =
    (s : State) (e : Event) (s0 : State) (r : Routing) (is_rebuilt : Pair → Bool) (table : FinMap pair_cmp (List Rule)) (reply : Reply) → IsEdit s e s0 r is_rebuilt → IsChange s0 r
    → AreRightBut s0 is_rebuilt → IsTableAfter s0 (retagged s0 r) is_rebuilt table → HasNewRules s0 is_rebuilt table
    → let s1 = record (retagged s0 r) { table = table } in rule_count s1 ≤ s.capacity → IsBuilt s0 s1 is_rebuilt reply
    → (next s e reply ≡ s1) × Fits s e reply

-- a steady state is one on which lines build
abbrev pub SteadyAreBases : Type 0
SteadyAreBases = (s : State) → IsSteady s → IsBase s none_rebuilt

-- a line that changes the routes builds on the state before it, and builds no pair anew
abbrev pub ReroutingsAreEdits : Type 0
ReroutingsAreEdits = (s : State) (e : Event) (r : Routing) → IsRerouting s e r → IsEdit s e s r none_rebuilt

-- so does a policy that is read, and builds anew the pairs of the sender's ports
abbrev pub OutboundBases : Type 0
OutboundBases =
    (s : State) (who : Pid) (text : List ℕ) (p : Policy) → IsSteady s → who.0 < length s.routing.participants → policy_of_text text ≡ Ok p
    → IsBase (outbound_base s who text (named_in (pid_of s.routing) p)) (is_senders s who)

-- where no refusal stops it
abbrev pub OutboundsAreEdits : Type 0
OutboundsAreEdits =
    (s : State) (name text : List ℕ) (who : Pid) (p : Policy) → IsSteady s → pid_of s.routing name ≡ Some who → policy_of_text text ≡ Ok p → refusal s (Outbound name text) ≡ None
    → let named = named_in (pid_of s.routing) p in IsEdit s (Outbound name text) (outbound_base s who text named) (with_named s.routing who named) (is_senders s who)

-- or the pairs in whose owner's part the receiver stands among the offers
abbrev pub InboundBases : Type 0
InboundBases =
    (s : State) (who : Pid) (text : List ℕ) (p : Policy) → IsSteady s → who.0 < length s.routing.participants → policy_of_text text ≡ Ok p → IsBase (inbound_base s who text) (is_receivers s who)

-- where no refusal stops it
abbrev pub InboundsAreEdits : Type 0
InboundsAreEdits =
    (s : State) (name text : List ℕ) (who : Pid) (p : Policy) → IsSteady s → pid_of s.routing name ≡ Some who → policy_of_text text ≡ Ok p → refusal s (Inbound name text) ≡ None
    → IsEdit s (Inbound name text) (inbound_base s who text) s.routing (is_receivers s who)

-- A line that changes the routes, and that no refusal stops, is a change of routes for which there are enough tags.
abbrev pub ReroutingsAreChanges : Type 0
ReroutingsAreChanges = (s : State) (e : Event) (r : Routing) → IsBase s none_rebuilt → IsRerouting s e r → IsChange s r

-- so is an outbound policy, by whom it names
abbrev pub OutboundsAreChanges : Type 0
OutboundsAreChanges =
    (s : State) (name text : List ℕ) (who : Pid) (p : Policy) → IsSteady s → pid_of s.routing name ≡ Some who → policy_of_text text ≡ Ok p → refusal s (Outbound name text) ≡ None
    → let named = named_in (pid_of s.routing) p in IsChange (outbound_base s who text named) (with_named s.routing who named)

-- and an inbound one, by which the routes stay
abbrev pub InboundsAreChanges : Type 0
InboundsAreChanges = (s : State) (who : Pid) (text : List ℕ) (p : Policy) → IsSteady s → policy_of_text text ≡ Ok p → IsChange (inbound_base s who text) s.routing
