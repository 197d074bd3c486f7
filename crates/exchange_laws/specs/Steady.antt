-- What holds of the state between any two lines (this exchange's own rule).
use Rattle.std.specs.Prelude.{◌≡◌, ℕ, ◌+◌, ◌≤◌, false, List, [], codes, length, map, slice_get, Some, None}
use Rattle.std.specs.FinMap.{FinMap, empty}
use Rattle.events.specs.After.{next}
use Rattle.events.specs.Forms.{IsWellFormed}
use Rattle.events.specs.Fits.{Fits, is_of_job}
use Rattle.events.specs.Legal.{Legal, state_after}
use Rattle.events.specs.Sound.{IsSound, HopsAreOwn}
use Rattle.events.specs.State.{State, ArePassed, ArePolicies, first}
use Rattle.events.specs.declared.Entry.{Entry}
use Rattle.events.specs.declared.Event.{Event}
use Rattle.events.specs.declared.Phase.TheVariants.{Running, Start}
use Rattle.events.specs.declared.Reply.{Reply}
use Rattle.exchange_laws.specs.Retagging.{KeptAreLive, LiveAreKept, TagsArePooled}
use Rattle.exchange_laws.specs.Rules.{OwnersAreDeclared}
use Rattle.exchange_laws.specs.Whole.{KeptAreWhole, RoutesAreDeclared}
use Rattle.net_types.specs.Answers.{Policies}
use Rattle.net_types.specs.Keys.{prefix_cmp, is_ip_before}
use Rattle.net_types.specs.Sets.{IsRising, Member}
use Rattle.net_types.specs.declared.address.Ip.{Ip}
use Rattle.net_types.specs.declared.route.PortInfo.{PortInfo}

-- each participant's policies are the text `drop`, which names nobody
pub record AllDrop (s : State) : Type 0 where
  pub outbound : s.outbound ≡ map (λ m. codes "drop") s.routing.participants
  pub inbound : s.inbound ≡ map (λ m. codes "drop") s.routing.participants
  pub named : s.routing.named ≡ map (λ m. []) s.routing.participants

-- Each participant has a text each way. They are read as policies that passed isolation, and the routing has whom they name.
pub record HavePassed (s : State) : Type 0 where
  pub policies : Policies
  pub read : ArePolicies s policies
  pub passed : ArePassed s policies
  pub outbound : length s.outbound ≡ length s.routing.participants
  pub inbound : length s.inbound ≡ length s.routing.participants
  pub named : length s.routing.named ≡ length s.routing.participants

-- two ports differ in number and in address
pub record PortsDiffer (ports : List PortInfo) : Type 0 where
  pub numbers : (i j : ℕ) (p q : PortInfo) → slice_get ports i ≡ Some p → slice_get ports j ≡ Some q → p.number.0 ≡ q.number.0 → i ≡ j
  pub addresses : (i j : ℕ) (p q : PortInfo) → slice_get ports i ≡ Some p → slice_get ports j ≡ Some q → p.ip.0 ≡ q.ip.0 → i ≡ j

-- the number of each port is one that a line may have
abbrev pub PortsAreNumbered : List PortInfo → Type 0
PortsAreNumbered ports = (q : PortInfo) → Member q ports → (1 ≤ q.number.0) × (q.number.0 ≤ 65279)

-- the pool and the table are as large as a line may say, and at the start there is no pool
pub record IsSized (s : State) : Type 0 where
  pub start : s.phase ≡ Start → s.size ≡ 0
  pub small : s.size ≤ 65536
  pub low : (s.phase ≡ Start → ⊥) → 16777215 ≤ s.base.0
  pub high : s.base.0 + s.size ≤ 3758096383
  pub room : s.capacity ≤ 1000000

-- there are no routes and no tags, nobody was told anything, and all policies drop
pub record IsNew (s : State) : Type 0 where
  pub routes : s.routing.routes ≡ empty
  pub tag : s.tag ≡ empty
  pub kept : s.kept ≡ empty
  pub told : (entries : FinMap prefix_cmp Entry) → Member entries s.told → entries ≡ empty
  pub drop : AllDrop s

-- The state is sound. The live tags are the pool's, and exactly they are kept. Each port, each route and each map of what
-- was told is a declared participant's, ports differ, and each NEXT_HOP is at a port of its route's participant. The lists
-- are as long as what is declared, each policy passed isolation, rules can be built of the parts that are kept, no job runs,
-- and nothing is there before the exchange runs.
pub record IsSteady (s : State) : Type 0 where
  pub sound : IsSound s
  pub pooled : TagsArePooled s
  pub kept : KeptAreLive s
  pub live : LiveAreKept s
  pub owners : OwnersAreDeclared s.routing
  pub told : length s.told ≡ length s.routing.participants
  pub hops : HopsAreOwn s
  pub routed : RoutesAreDeclared s.routing
  pub apart : PortsDiffer s.routing.ports
  pub numbered : PortsAreNumbered s.routing.ports
  pub rules : length s.routing.rules ≡ length s.routing.participants
  pub resolved : length s.resolved ≡ length s.routing.ports
  pub rising : (ips : List Ip) → Member ips s.resolved → IsRising is_ip_before ips
  pub few : length s.routing.participants ≤ 256
  pub policies : HavePassed s
  pub whole : KeptAreWhole s
  pub idle : s.owed ≡ None
  pub sized : IsSized s
  pub new : (s.phase ≡ Running → ⊥) → IsNew s

-- the state before the first line is steady
abbrev pub StartsSteady : Type 0
StartsSteady = IsSteady first

-- any line that can be written and isn't a job's, with a reply that fits, leaves a steady state steady
abbrev pub StepsStaySteady : Type 0
StepsStaySteady = (s : State) (e : Event) (r : Reply) → IsSteady s → IsWellFormed e → is_of_job e ≡ false → Fits s e r → IsSteady (next s e r)

-- so the state after any legal run of such lines is steady
abbrev pub RunsStaySteady : Type 0
RunsStaySteady = (es : List Event) (rs : List Reply) → ((e : Event) → Member e es → IsWellFormed e × (is_of_job e ≡ false)) → Legal es rs → IsSteady (state_after es rs)
