-- Carrying out what a line that builds rules asks for is a step, and so is its refusal for want of tags or of room.
use Rattle.std.proofs.Common.{◌≡◌, ℕ, ◌+◌, ◌<◌, ◌≤◌, Bool, true, false, List, length, sym, ap, subst, ◌∙◌, refl, arith}
use Rattle.std.specs.Prelude.{Some, None, Result, Ok, Err, IfErr, IfOk, nat_lt}
use Rattle.std.specs.Result.{IsErrAnd}
use Rattle.advert_queue.specs.Advertised.{Advertised}
use Rattle.std.specs.FinMap.{FinMap}
use Rattle.std.proofs.lemmas.Bool.{lt-ltb, ltb-true}
use Rattle.std.proofs.lemmas.List.{length-map}
use Rattle.block_build.specs.Lent.{AreOf, Lent}
use Rattle.events.specs.After.{next}
use Rattle.events.specs.Fits.{Fits, IsStep, bare}
use Rattle.events.specs.Forms.{IsWellFormed}
use Rattle.events.specs.Refusals.{refusal, refused_if}
use Rattle.events.specs.State.{State, ArePolicies}
use Rattle.events.specs.Tags as events
use Rattle.events.specs.Tags.{groups, retagged}
use Rattle.events.specs.declared.Entry.{Entry}
use Rattle.events.specs.declared.Event.{Event}
use Rattle.events.specs.declared.Head.TheVariants as heads
use Rattle.events.specs.declared.Head.TheVariants.{Fine}
use Rattle.events.specs.declared.Phase.{Phase}
use Rattle.events.specs.declared.Phase.TheVariants.{Running}
use Rattle.events.specs.declared.Refusal.TheVariants.{NoNextHop, TableFull}
use Rattle.events.specs.declared.Reply.{Reply}
use Rattle.exchange_laws.proofs.LineSteps.{building_other}
use Rattle.exchange_laws.specs.Editing.{IsEdit}
use Rattle.exchange_laws.specs.Fitting.{AreWithinCells, FullTablesAreRefused}
use Rattle.exchange_laws.specs.Fresh.{HasEnoughTags}
use Rattle.exchange_laws.specs.Listed.{AreThose}
use Rattle.exchange_laws.specs.Rules.{IsDeclaredAlike}
use Rattle.fast_path.specs.Carried.{ArePartsOf, IsPlanned, LeadsTo, PlansFitLines, plan_reply}
use Rattle.fast_path.specs.Committing.{marked_all, signed, tags_of}
use Rattle.fast_path.specs.Grouping.{kept_by, known_by}
use Rattle.fast_path.specs.Offers.{all_present}
use Rattle.fast_path.specs.Planned.{IsPoolOf}
use Rattle.fast_path.specs.Plans.{IsAsked, IsFault, IsPlan, IsWithinSteps, is_rebuilt_live, planned}
use Rattle.fast_path.specs.declared.planned.Changes.{Changes}
use Rattle.fast_path.specs.declared.planned.FastFault.{FastFault}
use Rattle.fast_path.specs.declared.planned.FastFault.TheVariants as faults
use Rattle.fast_path.specs.declared.planned.Plan.{Plan}
use Rattle.block_build.specs.Installed.{Installed}
use Rattle.net_types.specs.Answers.{Policies}
use Rattle.net_types.specs.Exports.{Routing, pid_of}
use Rattle.net_types.specs.Keys.{prefix_cmp}
use Rattle.net_types.specs.declared.address.Ip.{Ip}
use Rattle.net_types.specs.declared.rule.Pair.{Pair}
use Rattle.next_hop_pool.specs.Free.{Tags}
use Rattle.prefix_classes.specs.Classes.{Classes}
use Rattle.registry.specs.Registered.{Registered}
use Rattle.route_server.specs.Served.{Served}
use Rattle.exchange_core.proofs.Compiled.{changed_compiled, inbound_changed, lent_are_of, lent_length, outbound_changed}
use Rattle.exchange_core.proofs.Requests.{enough_pass}
use Rattle.exchange_core.proofs.Steps.{steady_after}
use Rattle.exchange_core.proofs.Stops.{refusal_stops, returned}
use Rattle.exchange_core.specs.Building.{Leads, base_of}
use Rattle.exchange_core.specs.Programs.{AreCompiled, IsChangeOf, all_lent, changed, inbound_after, inbound_texts, outbound_after, outbound_texts}
use Rattle.exchange_core.specs.Steps.{bound_by, built_count, step_bound}
use Rattle.exchange_core.specs.Stops.{IsStop, fast_stop}
use Rattle.exchange_core.specs.View.{IsKept, state_of}
use Rattle.exchange_core.specs.declared.programs.Programs.{Programs}
use Rattle.exchange_core.specs.declared.request.Request.{Request}
use Rattle.exchange_core.specs.declared.stop.Stop.{Stop}
use Rattle.exchange_core.specs.declared.stop.Stop.TheVariants.{Refused, Memory}

-- ---- what is asked

-- the parts show the state on which the request builds
pub asked_of : (s : State) (e : Event) (r : Routing) (is_rebuilt : Pair → Bool) (q : Request) (names : Registered) (classes : Classes) (pool : Tags) (was_told : List (FinMap prefix_cmp Entry)) (switch : Installed) (all : List Programs) (views : List Lent) (rebuild : List Pair)
    → s.routing.participants ≡ names.participants → s.routing.ports ≡ names.ports → s.tag ≡ classes.tag → s.kept ≡ classes.kept → s.told ≡ was_told → s.table ≡ switch.table → s.capacity ≡ switch.capacity
    → s.outbound ≡ outbound_texts all → s.inbound ≡ inbound_texts all → IsKept s pool all → views ≡ all_lent (changed all q.change) → rebuild ≡ q.rebuild.items → Leads s e r is_rebuilt q
    → IsAsked (base_of s q) r is_rebuilt names classes pool was_told switch views q.proposal rebuild
asked_of s e r is_rebuilt q names classes pool was_told switch all views rebuild participants ports tag kept told table capacity outbound inbound is lends rebuilds leads = record {
  shown = record { participants = participants; ports = ports; tag = tag; kept = ap (kept_by q.proposal.named) kept; told = told; free = is.free };
  table = table;
  capacity = capacity;
  base = leads.base;
  alike = record { participants = leads.alike.participants; ports = leads.alike.ports };
  proposes = leads.proposes;
  lent = ap length lends ∙ lent_length all q.change ∙ sym (ap length outbound) ∙ is.steady.policies.outbound;
  views = λ ps policies. subst (AreOf ps) (sym lends) (lent_are_of (base_of s q) (changed all q.change) ps (ap (λ texts. outbound_after texts q.change) outbound ∙ sym (outbound_changed all q.change)) (ap (λ texts. inbound_after texts q.change) inbound ∙ sym (inbound_changed all q.change))
      (changed_compiled (pid_of s.routing) all q.change is.compiled leads.compiled) policies);
  rebuilt = subst (AreThose (is_rebuilt_live (base_of s q) is_rebuilt)) (sym rebuilds) leads.rebuilt;
}

-- ---- steps

-- a line takes no more steps than it builds pairs
pub steps_within : (s : State) (e : Event) (r : Routing) (is_rebuilt : Pair → Bool) (q : Request) (before after : ℕ) → Leads s e r is_rebuilt q → IsWithinSteps (base_of s q) r is_rebuilt before after → after ≤ before + step_bound s e
steps_within s e r is_rebuilt q before after leads within = by (nat_lt (length (events.free_tags (base_of s q))) (length (groups (base_of s q) r))) refl
  where
    by : (b : Bool) → nat_lt (length (events.free_tags (base_of s q))) (length (groups (base_of s q) r)) ≡ b → after ≤ before + step_bound s e
    by true less = let still = within.short (ltb-true (length (events.free_tags (base_of s q))) (length (groups (base_of s q) r)) less) in omega (arith, still)
    by false enough =
        let none : refusal s e ≡ None = leads.refuses ∙ ap (λ b. refused_if b (NoNextHop (length (groups (base_of s q) r)) (length (events.free_tags (base_of s q))))) enough in
        let all : step_bound s e ≡ built_count s e = ap (λ o. bound_by o (built_count s e)) none in
        let most = within.most in
        let few = leads.bound none in
        omega (arith, most, few, all)

-- what is done of a request for each line that asks for it is done for this one
pub line_steps : (s : State) (e : Event) (r : Routing) (is_rebuilt : Pair → Bool) (q : Request) (result : Result Reply Stop) (s' : State) → IsWellFormed e → Leads s e r is_rebuilt q
    → IfOk result (λ reply. (d : Event) (t : Routing) (test : Pair → Bool) → IsWellFormed d → Leads s d t test q → IsStep s d reply s') → IfOk result (λ reply. IsStep s e reply s')
line_steps s e r is_rebuilt q (Ok reply) s' formed leads done = done e r is_rebuilt formed leads
line_steps s e r is_rebuilt q (Err stop) s' formed leads done = tt

-- and so what stops it
pub line_stops : (s : State) (e : Event) (r : Routing) (is_rebuilt : Pair → Bool) (q : Request) (result : Result Reply Stop) → Leads s e r is_rebuilt q
    → IfErr result (λ stop. (d : Event) (t : Routing) (test : Pair → Bool) → Leads s d t test q → IsStop s d stop) → IfErr result (IsStop s e)
line_stops s e r is_rebuilt q (Ok reply) leads done = tt
line_stops s e r is_rebuilt q (Err stop) leads done = done e r is_rebuilt leads

-- ---- refusals

-- more tags are needed than are free
short_stops : (s : State) (e : Event) (r : Routing) (is_rebuilt : Pair → Bool) (q : Request) (need free : ℕ) → Leads s e r is_rebuilt q → need ≡ length (groups (base_of s q) r) → free ≡ length (events.free_tags (base_of s q)) → free < need
    → IsStop s e (Refused (NoNextHop need free))
short_stops s e r is_rebuilt q need free leads needs frees below =
    let less : length (events.free_tags (base_of s q)) < length (groups (base_of s q) r) = omega (arith, needs, frees, below) in
    refusal_stops s e (NoNextHop need free)
    (leads.refuses ∙ ap (λ b. refused_if b (NoNextHop (length (groups (base_of s q) r)) (length (events.free_tags (base_of s q))))) (lt-ltb (length (events.free_tags (base_of s q))) (length (groups (base_of s q) r)) less)
    ∙ ap (λ n. Some (NoNextHop n (length (events.free_tags (base_of s q))))) (sym needs) ∙ ap (λ n. Some (NoNextHop need n)) (sym frees))

-- where there are enough, it is an edit
pub edit_of : (s : State) (e : Event) (r : Routing) (is_rebuilt : Pair → Bool) (q : Request) → Leads s e r is_rebuilt q → HasEnoughTags (base_of s q) r → IsEdit s e (base_of s q) r is_rebuilt
edit_of s e r is_rebuilt q leads enough = leads.edits (leads.refuses ∙ enough_pass (base_of s q) r enough)

names_alike : (r r1 : Routing) → r1.participants ≡ r.participants → pid_of r ≡ pid_of r1
names_alike r r1 same = ap (λ ms. pid_of (record r1 { participants = ms })) (sym same)

-- the rules would be more than there is room for
full_stops : FullTablesAreRefused → (s : State) (e : Event) (r : Routing) (is_rebuilt : Pair → Bool) (q : Request) (rules capacity : ℕ) → Leads s e r is_rebuilt q → HasEnoughTags (base_of s q) r → AreWithinCells (retagged (base_of s q) r) rules
    → capacity ≡ s.capacity → capacity < rules → IsStop s e (Refused (TableFull rules capacity))
full_stops law s e r is_rebuilt q rules capacity leads enough within room over =
    let read = leads.base.right.read in
    let ps : Policies = leads.base.right.policies in
    let policies : ArePolicies (retagged (base_of s q) r) ps = record { names = read.names ∙ names_alike s.routing r leads.alike.participants; outbound = read.outbound; inbound = read.inbound } in
    subst (λ n. Fits s e (bare (heads.Refused (TableFull rules n)))) (sym room) (law s e (base_of s q) r is_rebuilt rules (edit_of s e r is_rebuilt q leads enough) ps policies within (omega (arith, room, over)))

-- what stops the plan of a request stops the line
pub fault_stops : FullTablesAreRefused → (s : State) (e : Event) (r : Routing) (is_rebuilt : Pair → Bool) (q : Request) (fault : FastFault) → Leads s e r is_rebuilt q → IsFault (base_of s q) r fault → IsStop s e (fast_stop fault)
fault_stops law s e r is_rebuilt q (faults.NoNextHop need free) leads is = short_stops s e r is_rebuilt q need free leads is.0 is.1 is.2
fault_stops law s e r is_rebuilt q (faults.TableFull rules capacity) leads is = full_stops law s e r is_rebuilt q rules capacity leads is.0 is.1 is.2 is.3
fault_stops law s e r is_rebuilt q faults.Memory leads is = tt

-- want of memory stops any line
pub memory_stops : (s : State) (q : Request) (result : Result Reply Stop) → IsErrAnd result (λ e. e ≡ Memory) → IfErr result (λ stop. (e : Event) (r : Routing) (is_rebuilt : Pair → Bool) → Leads s e r is_rebuilt q → IsStop s e stop)
memory_stops s q result is = returned (λ x. IfErr x (λ stop. (e : Event) (r : Routing) (is_rebuilt : Pair → Bool) → Leads s e r is_rebuilt q → IsStop s e stop)) result Memory is (λ e r is_rebuilt leads. tt)

-- ---- what is committed

pub state_then : (phase : Phase) (base : Ip) (size : ℕ) (names : Registered) (served : Served) (resolved : List (List Ip)) (classes : Classes) (told : List (FinMap prefix_cmp Entry)) (installed : Installed) (all : List Programs) (r : Routing) (q : Request) (plan : Plan)
    (served' : Served) (classes' : Classes) (told' : List (FinMap prefix_cmp Entry)) (installed' : Installed) (all' : List Programs)
    → let s = state_of phase base size names served resolved classes told installed all in
    let s' = planned (base_of s q) r plan in
    IsDeclaredAlike s.routing r → served'.routes ≡ r.routes → served'.rules ≡ r.rules → served'.named ≡ r.named → all' ≡ changed all q.change → classes'.tag ≡ s'.tag → classes'.kept ≡ s'.kept
    → told' ≡ told → installed'.table ≡ s'.table → installed'.capacity ≡ installed.capacity
    → state_of Running base size names served' resolved classes' told' installed' all' ≡ s'
state_then phase base size names served resolved classes told installed all r q plan served' classes' told' installed' all' alike routes rules named programs tag kept same_told table capacity =
    let outbound = ap outbound_texts programs ∙ outbound_changed all q.change in
    let inbound = ap inbound_texts programs ∙ inbound_changed all q.change in
    λ i. record {
      phase = Running;
      base = base;
      size = size;
      capacity = capacity i;
      routing = record { participants = sym alike.participants i; ports = sym alike.ports i; rules = rules i; named = named i; routes = routes i };
      outbound = outbound i;
      inbound = inbound i;
      tag = tag i;
      kept = kept i;
      told = same_told i;
      resolved = resolved;
      table = table i;
      owed = None;
    }

pub pool_is : (s : State) (pool : Tags) (all : List Programs) (q : Request) → IsKept s pool all → IsPoolOf (base_of s q) pool
pool_is s pool all q is = record { free = sym is.free; size = is.size; base = is.base }

-- the plan is one for the routes to which the line leads
pub planned_of : (s : State) (e : Event) (r : Routing) (is_rebuilt : Pair → Bool) (q : Request) (plan : Plan) → Leads s e r is_rebuilt q → IsPlan (base_of s q) r is_rebuilt plan → IsPlanned (base_of s q) r is_rebuilt plan
planned_of s e r is_rebuilt q plan leads plans = record { base = leads.base; alike = record { participants = leads.alike.participants; ports = leads.alike.ports }; planned = plans }

-- the parts of the state are those of its base, trimmed
pub parts_of : (s : State) (q : Request) (plan : Plan) (classes : Classes) (pool : Tags) (switch : Installed) (adverts : Advertised) (all : List Programs) → IsKept s pool all → plan.named ≡ q.proposal.named → s.tag ≡ classes.tag → s.kept ≡ classes.kept → s.table ≡ switch.table → s.capacity ≡ switch.capacity
    → s.told ≡ adverts.told → all_present s ≡ adverts.present → ArePartsOf (base_of s q) plan classes pool switch adverts
parts_of s q plan classes pool switch adverts all is named tag kept table capacity told present = record {
  tag = tag;
  kept = ap (kept_by q.proposal.named) kept ∙ ap (λ o. (known_by o classes).kept) (sym named);
  pool = pool_is s pool all q is;
  table = table;
  capacity = capacity;
  told = told;
  present = present;
}

module _ (law : PlansFitLines) (s : State) (e : Event) (r : Routing) (is_rebuilt : Pair → Bool) (q : Request) (plan : Plan) (reply : Reply) (s' : State) (pool : Tags) (all : List Programs) (is : IsKept s pool all) (formed : IsWellFormed e)
    (leads : Leads s e r is_rebuilt q) (plans : IsPlan (base_of s q) r is_rebuilt plan) (says : reply ≡ plan_reply plan) (then : s' ≡ planned (base_of s q) r plan) where
  committed_line : (next s e (plan_reply plan) ≡ planned (base_of s q) r plan) × Fits s e (plan_reply plan)
  committed_line = law s e (base_of s q) r is_rebuilt plan (planned_of s e r is_rebuilt q plan leads plans) (edit_of s e r is_rebuilt q leads plans.enough)

  -- it is the step
  pub committed_step : IsStep s e reply s'
  committed_step = record {
    fits = subst (Fits s e) (sym says) committed_line.1;
    next = then ∙ sym committed_line.0 ∙ ap (next s e) (sym says);
  }

  -- after which the exchange is as it should be
  pub committed_kept : (classes : Classes) (switch : Installed) (adverts : Advertised) → LeadsTo (planned (base_of s q) r plan) plan classes pool switch adverts
      → (pool' : Tags) → pool' ≡ marked_all (marked_all pool (tags_of (signed plan.fresh.items)) true) plan.dead.items false → (all' : List Programs) → all' ≡ changed all q.change → IsKept s' pool' all'
  committed_kept classes switch adverts to pool' marked all' programs =
      let of : IsPoolOf s' pool' = subst (λ x. IsPoolOf x pool') (sym then) (subst (IsPoolOf (planned (base_of s q) r plan)) (sym marked) to.pool) in
      let names : pid_of s.routing ≡ pid_of s'.routing = names_alike s.routing r leads.alike.participants ∙ ap (λ (x : State). pid_of x.routing) (sym then) in
      record {
        steady = steady_after s e reply s' is.steady formed (building_other e leads.building) committed_step;
        free = sym of.free;
        base = of.base;
        size = of.size;
        compiled = subst (λ n. AreCompiled n all') names (subst (AreCompiled (pid_of s.routing)) (sym programs) (changed_compiled (pid_of s.routing) all q.change is.compiled leads.compiled));
      }

-- what the reply says
pub says : (reply : Reply) (changes : Changes) (plan : Plan) → reply ≡ record (bare Fine) { tags = changes.tags; drops = changes.drops; adds = changes.adds } → changes ≡ record { tags = plan.tags; drops = plan.drops; adds = plan.adds }
    → reply ≡ plan_reply plan
says reply changes plan is same = is ∙ ap (λ (x : Changes). record (bare Fine) { tags = x.tags; drops = x.drops; adds = x.adds }) same

-- a change is one of a participant that has policies
pub change_placed : (s : State) (pool : Tags) (all : List Programs) (q : Request) → IsKept s pool all → s.outbound ≡ outbound_texts all → IsChangeOf (length s.routing.participants) q.change → IsChangeOf (length all) q.change
change_placed s pool all q is outbound placed =
    let count : length s.routing.participants ≡ length all = sym is.steady.policies.outbound ∙ ap length outbound ∙ length-map all (λ (b : Programs). b.outbound.text) in
    subst (λ n. IsChangeOf n q.change) count placed
