-- The state that the parts of an exchange show, and what is asked of it (this exchange's own rule).
use Rattle.std.specs.Prelude.{◌≡◌, ◌<◌, [], Bool, List, length, slice_set, Option, None, Some}
use Rattle.std.specs.FinMap.{FinMap}
use Rattle.block_build.specs.Installed.{Installed}
use Rattle.events.specs.Fits.{none_rebuilt}
use Rattle.events.specs.State.{State}
use Rattle.events.specs.Tags as events
use Rattle.events.specs.declared.Entry.{Entry}
use Rattle.events.specs.declared.Phase.TheVariants.{Running}
use Rattle.exchange_laws.specs.Editing.{IsBase, both}
use Rattle.exchange_laws.specs.Listed.{AreThose}
use Rattle.exchange_laws.specs.Rules.{IsDeclaredAlike}
use Rattle.exchange_laws.specs.Steady.{PortsAreNumbered, PortsDiffer}
use Rattle.fast_path.specs.Grouping.{kept_by}
use Rattle.fast_path.specs.Offers.{Present, all_present}
use Rattle.fast_path.specs.Plans.{IsPlan, is_rebuilt_live}
use Rattle.fast_path.specs.declared.planned.Plan.{Plan}
use Rattle.net_types.specs.Exports.{Routing, named_by}
use Rattle.net_types.specs.Keys.{prefix_cmp}
use Rattle.net_types.specs.Sets.{Member}
use Rattle.net_types.specs.declared.address.Pid.{Pid}
use Rattle.net_types.specs.declared.route.PortInfo.{PortInfo}
use Rattle.net_types.specs.declared.rule.Pair.{Pair}
use Rattle.next_hop_pool.specs.Free.{Tags, free_tags}
use Rattle.prefix_classes.specs.Classes.{Classes}
use Rattle.registry.specs.Registered.{Registered}
use Rattle.route_server.specs.Proposed.{IsProposal, Proposed, named_with}
use Rattle.route_server.specs.Served.{AreOwned, Served, routing}
use Rattle.plan_cases.specs.Policies.{inbound_texts, outbound_texts}
use Rattle.plan_cases.specs.declared.policies.Texts.{Texts}
use Rattle.plan_cases.specs.declared.request.Request.{Request}

-- the state that the parts show
abbrev pub state_of : Registered → Served → Classes → Tags → List (FinMap prefix_cmp Entry) → Installed → List Texts → State
state_of names served classes pool was_told installed texts = record {
  phase = Running;
  base = pool.base;
  size = length pool.taken;
  capacity = installed.capacity;
  routing = routing names served;
  outbound = outbound_texts texts;
  inbound = inbound_texts texts;
  tag = classes.tag;
  kept = classes.kept;
  told = was_told;
  resolved = [];
  table = installed.table;
  owed = None;
}

-- each port is a declared participant's and has a number that a port may have, and no two have one number or one address
pub record AreDeclared (names : Registered) : Type 0 where
  pub owners : (q : PortInfo) → Member q names.ports → q.owner.0 < length names.participants
  pub apart : PortsDiffer names.ports
  pub numbered : PortsAreNumbered names.ports

-- Lines build on the state, each route is that of a declared participant which owns the port of its next hop, the pool's free
-- tags are those that aren't live, and what is kept as present is what is present.
pub record IsKept (s : State) (pool : Tags) (presents : Present) : Type 0 where
  pub base : IsBase s none_rebuilt
  pub owned : AreOwned s.routing
  pub free : events.free_tags s ≡ free_tags pool
  pub present : presents ≡ all_present s

-- whom the outbound policies name, where that of a participant comes to name others: of those that it named, the ones that
-- it names still
abbrev pub names_before : Option (Pid × List Pid) → Routing → List (List Pid)
names_before None r = r.named
names_before (Some (who, named)) r = slice_set r.named who.0 (both (named_by r who) named)

-- the state on which a line builds by which a participant comes to name others and these become the policies
abbrev pub base_by : State → Option (Pid × List Pid) → List Texts → State
base_by s named texts = record s {
  routing = record s.routing { named = names_before named s.routing };
  outbound = outbound_texts texts;
  inbound = inbound_texts texts;
  kept = kept_by named s.kept;
}

-- the state on which a request builds
abbrev pub base_of : State → Request → State
base_of s q = base_by s q.proposal.named q.texts.items

-- A line builds on the state of a request, for a routing in which the same is declared; the pairs that are built anew are
-- listed, in order.
pub record Asks (s : State) (r : Routing) (is_rebuilt : Pair → Bool) (q : Request) : Type 0 where
  pub base : IsBase (base_of s q) is_rebuilt
  pub alike : IsDeclaredAlike s.routing r
  pub proposes : IsProposal (base_of s q).routing r q.proposal
  pub named : named_with q.proposal.named s.routing.named ≡ r.named
  pub rebuilt : AreThose (is_rebuilt_live (base_of s q) is_rebuilt) q.rebuild.items

-- a proposal is for a routing in which the same is declared, and nobody comes to name others
abbrev pub Reroutes : State → Proposed → Type 0
Reroutes s proposal = (r : Routing) × IsDeclaredAlike s.routing r × IsProposal s.routing r proposal × (proposal.named ≡ None)

-- there is a routing, and pairs that are built anew, for which a request is
abbrev pub AreAsked : State → Request → Type 0
AreAsked s q = (r : Routing) × (is_rebuilt : Pair → Bool) × Asks s r is_rebuilt q

-- and a plan is for it
abbrev pub ArePlanned : State → Request → Plan → Type 0
ArePlanned s q plan = (r : Routing) × (is_rebuilt : Pair → Bool) × Asks s r is_rebuilt q × IsPlan (base_of s q) r is_rebuilt plan × (plan.named ≡ q.proposal.named)
