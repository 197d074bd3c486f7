-- Lines that build rules: what they ask for (this exchange's own rule).
use Rattle.std.specs.Prelude.{◌≡◌, ℕ, ◌≤◌, Bool, true, false, List, filter, length, slice_set, Option, Some, None, Result, Ok, Err}
use Rattle.std.specs.FinMap.{keys}
use Rattle.events.specs.After.{with_named}
use Rattle.events.specs.Fits.{is_building, is_receivers, is_senders}
use Rattle.events.specs.Refusals.{refusal, tags_refusal}
use Rattle.events.specs.State.{State}
use Rattle.events.specs.declared.Event.{Event}
use Rattle.exchange_laws.specs.Editing.{IsBase, IsEdit, both}
use Rattle.exchange_laws.specs.Listed.{AreThose}
use Rattle.exchange_laws.specs.Rerouting.{is_rerouting}
use Rattle.exchange_laws.specs.Rules.{IsDeclaredAlike}
use Rattle.fast_path.specs.Grouping.{kept_by}
use Rattle.fast_path.specs.Plans.{build_count, is_rebuilt_live}
use Rattle.net_types.specs.Exports.{Routing, named_by, pid_of}
use Rattle.net_types.specs.Naming.{named_in}
use Rattle.net_types.specs.Policies.{Policy}
use Rattle.net_types.specs.declared.address.Pid.{Pid}
use Rattle.net_types.specs.declared.rule.Pair.{Pair}
use Rattle.route_server.specs.Proposed.{IsProposal, named_with}
use Rattle.exchange_core.specs.Programs.{IsChangeCompiled, IsChangeOf, IsCompiled, inbound_after, outbound_after}
use Rattle.exchange_core.specs.Steps.{built_count}
use Rattle.exchange_core.specs.Stops.{IsStop}
use Rattle.exchange_core.specs.declared.programs.PolicyChange.{PolicyChange}
use Rattle.exchange_core.specs.declared.programs.PolicyChange.TheVariants.{Stay, Outbound, Inbound}
use Rattle.exchange_core.specs.declared.programs.Program.{Program}
use Rattle.exchange_core.specs.declared.request.Request.{Request}
use Rattle.exchange_core.specs.declared.stop.Stop.{Stop}

-- whom the outbound policies name, where that of a participant comes to name others: of those that it named, the ones that
-- it names still
abbrev pub names_before : Option (Pid × List Pid) → Routing → List (List Pid)
names_before None r = r.named
names_before (Some (who, named)) r = slice_set r.named who.0 (both (named_by r who) named)

-- the state on which a line builds that makes a policy another, which comes to name others
abbrev pub base_by : State → Option (Pid × List Pid) → PolicyChange → State
base_by s named change = record s {
  routing = record s.routing { named = names_before named s.routing };
  outbound = outbound_after s.outbound change;
  inbound = inbound_after s.inbound change;
  kept = kept_by named s.kept;
}

-- the state on which a request builds
abbrev pub base_of : State → Request → State
base_of s q = base_by s q.proposal.named q.change

-- Exactly where all policies stay, the line changes the routes, and then nobody comes to name others.
abbrev pub IsOfKind : Event → Option (Pid × List Pid) → PolicyChange → Type 0
IsOfKind e named Stay = (is_rerouting e ≡ true) × (named ≡ None)
IsOfKind e named (Outbound who program) = is_rerouting e ≡ false
IsOfKind e named (Inbound who program) = is_rerouting e ≡ false

-- The line would build rules on the state of the request, for these routes, and build these pairs anew. It is refused at most
-- for want of tags or of room for the rules, and builds no more pairs than such a line does.
pub record Leads (s : State) (e : Event) (r : Routing) (is_rebuilt : Pair → Bool) (q : Request) : Type 0 where
  pub building : is_building e ≡ true
  pub kind : IsOfKind e q.proposal.named q.change
  pub refuses : refusal s e ≡ tags_refusal (base_of s q) r
  pub edits : refusal s e ≡ None → IsEdit s e (base_of s q) r is_rebuilt
  pub base : IsBase (base_of s q) is_rebuilt
  pub alike : IsDeclaredAlike s.routing r
  pub proposes : IsProposal (base_of s q).routing r q.proposal
  pub named : named_with q.proposal.named s.routing.named ≡ r.named
  pub rebuilt : AreThose (is_rebuilt_live (base_of s q) is_rebuilt) q.rebuild.items
  pub placed : IsChangeOf (length s.routing.participants) q.change
  pub compiled : IsChangeCompiled (pid_of s.routing) q.change
  pub bound : refusal s e ≡ None → build_count (base_of s q) r is_rebuilt ≤ built_count s e

-- a line asks for what it leads to, or isn't carried out
abbrev pub Asks : State → Event → Result Request Stop → Type 0
Asks s e (Ok q) = (r : Routing) × (is_rebuilt : Pair → Bool) × Leads s e r is_rebuilt q
Asks s e (Err stop) = IsStop s e stop

-- What another outbound policy asks for: it is compiled, the routing has whom it names, and the pairs of the participant's
-- ports are built anew.
pub record IsSending (s : State) (who : Pid) (text : List ℕ) (p : Policy) (q : Request) : Type 0 where
  pub program : Program
  pub change : q.change ≡ Outbound who program
  pub read : program.text ≡ text
  pub compiled : IsCompiled (pid_of s.routing) program
  pub named : q.proposal.named ≡ Some (who, named_in (pid_of s.routing) p)
  pub proposes : IsProposal (with_named s.routing who (both (named_by s.routing who) (named_in (pid_of s.routing) p))) (with_named s.routing who (named_in (pid_of s.routing) p)) q.proposal
  pub rebuilt : q.rebuild.items ≡ filter (is_senders s who) (keys s.table)

-- What another inbound policy asks for: it is compiled, no route changes, and the pairs in whose part the participant stands
-- among the offers are built anew.
pub record IsReceiving (s : State) (who : Pid) (text : List ℕ) (q : Request) : Type 0 where
  pub program : Program
  pub change : q.change ≡ Inbound who program
  pub read : program.text ≡ text
  pub compiled : IsCompiled (pid_of s.routing) program
  pub named : q.proposal.named ≡ None
  pub proposes : IsProposal s.routing s.routing q.proposal
  pub rebuilt : q.rebuild.items ≡ filter (is_receivers s who) (keys s.table)
