-- A job that is told of a plan covers what the line leaves.
use Rattle.std.proofs.Common.{◌≡◌, ℕ, ◌+◌, ◌*◌, ◌≤◌, Bool, false, List, length, sym, ap, subst, ◌∙◌, refl}
use Rattle.std.specs.Prelude.{Option, Some, None, Result, Ok, Err, IfOk, OnErr, OnOk}
use Rattle.std.specs.FinMap.{FinMap}
use Rattle.std.proofs.lemmas.List.{length-map}
use Rattle.events.specs.After.{next}
use Rattle.events.specs.Fits.{Fits, IsStep, is_building, is_of_job}
use Rattle.events.specs.Forms.{IsWellFormed}
use Rattle.events.specs.State.{State}
use Rattle.events.specs.Tags.{capped}
use Rattle.block_build.specs.Installed.{Installed}
use Rattle.events.specs.declared.Entry.{Entry}
use Rattle.events.specs.declared.Event.{Event}
use Rattle.events.specs.declared.Phase.{Phase}
use Rattle.events.specs.declared.Reply.{Reply}
use Rattle.exchange_laws.proofs.LineSteps.{building_other}
use Rattle.exchange_laws.specs.Editing.{IsEdit}
use Rattle.exchange_laws.specs.Steady.{IsSteady}
use Rattle.fast_path.specs.Carried.{IsPlanned, plan_reply}
use Rattle.fast_path.specs.Committing.{Kept, signed}
use Rattle.fast_path.specs.Plans.{IsPlan}
use Rattle.fast_path.specs.declared.planned.Class.{Class}
use Rattle.fast_path.specs.declared.planned.Plan.{Plan}
use Rattle.job_laws.specs.Jobs.{without_job}
use Rattle.job_upkeep.specs.Upkeep.{AddedAreFew, HasJob, NoJobsStart, PoliciesKeepJobs, QuietLinesKeepJobs, ReroutingsKeepJobs, fresh_of}
use Rattle.net_types.specs.Exports.{Routing}
use Rattle.net_types.specs.Keys.{pair_cmp, prefix_cmp}
use Rattle.net_types.specs.declared.address.Tag.{Tag}
use Rattle.net_types.specs.declared.address.Ip.{Ip}
use Rattle.net_types.specs.declared.memory.Memory.{Memory}
use Rattle.net_types.specs.declared.rule.Pair.{Pair}
use Rattle.net_types.specs.declared.rule.Rule.{Rule}
use Rattle.prefix_classes.specs.Classes.{Classes}
use Rattle.recompile.specs.Changing.{CoversAfter}
use Rattle.recompile.specs.Underway.{Underway}
use Rattle.registry.specs.Registered.{Registered}
use Rattle.route_server.specs.Served.{Served}
use Rattle.exchange_core.specs.Programs.{inbound_texts, outbound_texts}
use Rattle.exchange_core.specs.View.{state_of}
use Rattle.exchange_core.specs.declared.programs.Programs.{Programs}
use Rattle.exchange_core.specs.Building.{IsOfKind, Leads, base_by, base_of}
use Rattle.exchange_core.specs.Jobs.{IsTold, IsToldBy, IsToldChanges, IsToldPolicy, KeepsJob}
use Rattle.exchange_core.specs.declared.programs.PolicyChange.{PolicyChange}
use Rattle.exchange_core.specs.declared.programs.PolicyChange.TheVariants.{Inbound, Outbound, Stay}
use Rattle.exchange_core.specs.declared.request.Request.{Request}
use Rattle.exchange_core.specs.declared.stop.Stop.{Stop}
use Rattle.exchange_core.proofs.Builds.{edit_of, planned_of}

-- ---- lines that leave the job as it is

-- a line that builds no rules, with a reply that fits
pub quiet_keeps : QuietLinesKeepJobs → (s : State) (e : Event) (reply : Reply) (s' : State) (old new : Option Underway) → IsSteady s → IsWellFormed e → is_of_job e ≡ false → is_building e ≡ false → IsStep s e reply s' → new ≡ old
    → KeepsJob s e reply old new
quiet_keeps law s e reply s' old new steady formed line quiet step same = λ w core has.
    subst (HasJob (next w e reply)) (sym same) (law w e reply old (subst IsSteady (sym core) steady) formed line quiet (subst (λ (x : State). Fits x e reply) (sym core) step.fits) has)

-- so it is where the line is one of these
pub quiet_line : QuietLinesKeepJobs → (s : State) (e d : Event) → e ≡ d → is_building d ≡ false → IsSteady s → IsWellFormed e → is_of_job e ≡ false → (reply : Reply) (s' : State) (job : Option Underway) → IsStep s d reply s' → KeepsJob s e reply job job
quiet_line law s e d is quiet steady formed line reply s' job step = quiet_keeps law s e reply s' job job steady formed line (ap is_building is ∙ quiet) (subst (λ x. IsStep s x reply s') (sym is) step) refl

pub quiet_result : QuietLinesKeepJobs → (s : State) (e d : Event) → e ≡ d → is_building d ≡ false → IsSteady s → IsWellFormed e → is_of_job e ≡ false → (result : Result Reply Stop) (s' : State) (job : Option Underway)
    → IfOk result (λ reply. IsStep s d reply s') → IfOk result (λ reply. KeepsJob s e reply job job)
quiet_result law s e d is quiet steady formed line (Ok reply) s' job step = quiet_line law s e d is quiet steady formed line reply s' job step
quiet_result law s e d is quiet steady formed line (Err stop) s' job step = tt

-- ---- lines that build rules

-- what a job says that it was told
pub changes_told : (result : Result (Unit {0}) Memory) (ports count : ℕ) (plan : Plan) (old new : Underway) (fresh emptied : List Tag) (added : List Pair) → fresh ≡ fresh_of plan → emptied ≡ plan.emptied.items → added ≡ plan.added → count ≡ ports
    → OnOk result (new.owed ≡ capped (old.owed + (plan.newly + length fresh * (count + 1)))) → OnOk result (CoversAfter fresh emptied added old new) → OnOk result (IsToldChanges ports plan old new)
changes_told (Ok done) ports count plan old new fresh emptied added tags gone pairs counted owed covers = record {
  owed = owed ∙ (λ i. capped (old.owed + (plan.newly + length (tags i) * (counted i + 1))));
  covers = subst (λ ps. CoversAfter (fresh_of plan) plan.emptied.items ps old new) pairs (subst (λ ts. CoversAfter (fresh_of plan) ts added old new) gone (subst (λ ts. CoversAfter ts emptied added old new) tags covers));
}
changes_told (Err m) ports count plan old new fresh emptied added tags gone pairs counted owed covers = tt

-- a job that is told of changes where all policies stay
pub told_changes : (ports : ℕ) (tags : FinMap prefix_cmp Tag) (table : FinMap pair_cmp (List Rule)) (change : PolicyChange) (plan : Plan) (old new : Underway) → change ≡ Stay → IsToldChanges ports plan old new
    → IsTold ports tags table change plan (Some old) (Some new)
told_changes ports tags table change plan old new stays told = (new, refl, subst (λ c. IsToldBy ports tags table c plan old new) (sym stays) told)

-- and of a policy where one is another
pub told_policy : (ports : ℕ) (tags : FinMap prefix_cmp Tag) (table : FinMap pair_cmp (List Rule)) (change : PolicyChange) (plan : Plan) (old new : Underway) → (change ≡ Stay → ⊥) → IsToldPolicy tags table plan new
    → IsTold ports tags table change plan (Some old) (Some new)
told_policy ports tags table Stay plan old new other told = absurd (other refl)
told_policy ports tags table (Outbound who program) plan old new other told = (new, refl, told)
told_policy ports tags table (Inbound who program) plan old new other told = (new, refl, told)

-- as many fresh tags as classes
fresh_count : (plan : Plan) → length (fresh_of plan) ≡ length plan.fresh.items
fresh_count plan = length-map (signed plan.fresh.items) (λ (f : Kept). f.0) ∙ length-map plan.fresh.items (λ (c : Class). let k : Kept = (c.tag, c.sig) in k)

module _ (s : State) (e : Event) (r : Routing) (is_rebuilt : Pair → Bool) (q : Request) (plan : Plan) (leads : Leads s e r is_rebuilt q) (plans : IsPlan (base_of s q) r is_rebuilt plan) where
  is_edit : IsEdit s e (base_of s q) r is_rebuilt
  is_edit = edit_of s e r is_rebuilt q leads plans.enough

  is_planned : IsPlanned (base_of s q) r is_rebuilt plan
  is_planned = planned_of s e r is_rebuilt q plan leads plans

  -- where all policies stay, the routes change, on the state before the line
  module _ (stays : q.change ≡ Stay) where
    kind : IsOfKind e q.proposal.named Stay
    kind = subst (IsOfKind e q.proposal.named) stays leads.kind

    base_is : base_of s q ≡ s
    base_is = λ i. base_by s (kind.1 i) (stays i)

    pub few_added : AddedAreFew → IsSteady s → length plan.added ≤ length (fresh_of plan) * length s.routing.ports
    few_added law steady =
        subst (λ n. length plan.added ≤ n * length s.routing.ports) (sym (fresh_count plan))
        (law s e r is_rebuilt plan steady kind.0 (subst (λ (x : State). IsEdit s e x r is_rebuilt) base_is is_edit) (subst (λ (x : State). IsPlanned x r is_rebuilt plan) base_is is_planned))

  module _ (reroutings : ReroutingsKeepJobs) (policies : PoliciesKeepJobs) (none : NoJobsStart) (steady : IsSteady s) (formed : IsWellFormed e) (w : State) (core : without_job w ≡ s) where
    -- the job of a state is told of a change of the routes, or of a policy
    told_covers : (change : PolicyChange) → q.change ≡ change → (old new : Underway) → IsToldBy (length s.routing.ports) s.tag s.table change plan old new → HasJob w (Some old) → HasJob (next w e (plan_reply plan)) (Some new)
    told_covers Stay is old new told has =
        let here = kind is in
        let edit = subst (λ (x : State). IsEdit x e x r is_rebuilt) (sym core) (subst (λ (x : State). IsEdit s e x r is_rebuilt) (base_is is) is_edit) in
        let planned = subst (λ (x : State). IsPlanned x r is_rebuilt plan) (sym core) (subst (λ (x : State). IsPlanned x r is_rebuilt plan) (base_is is) is_planned) in
        reroutings w e r is_rebuilt plan old new (subst IsSteady (sym core) steady) formed here.0 edit planned told.covers (subst (λ (x : State). new.owed ≡ capped (old.owed + (plan.newly + length (fresh_of plan) * (length x.routing.ports + 1)))) (sym core) told.owed) has
    told_covers (Outbound who program) is old new told has =
        let kind = subst (IsOfKind e q.proposal.named) is leads.kind in
        let now = subst (λ (x : State). IsToldPolicy x.tag x.table plan new) (sym core) told in
        policies w e (base_of s q) r is_rebuilt plan old new (subst IsSteady (sym core) steady) formed kind (subst (λ (x : State). IsEdit x e (base_of s q) r is_rebuilt) (sym core) is_edit) is_planned now.covers now.owed has
    told_covers (Inbound who program) is old new told has =
        let kind = subst (IsOfKind e q.proposal.named) is leads.kind in
        let now = subst (λ (x : State). IsToldPolicy x.tag x.table plan new) (sym core) told in
        policies w e (base_of s q) r is_rebuilt plan old new (subst IsSteady (sym core) steady) formed kind (subst (λ (x : State). IsEdit x e (base_of s q) r is_rebuilt) (sym core) is_edit) is_planned now.covers now.owed has

    told_has : (old new : Option Underway) → IsTold (length s.routing.ports) s.tag s.table q.change plan old new → HasJob w old → HasJob (next w e (plan_reply plan)) new
    told_has None new told has = subst (HasJob (next w e (plan_reply plan))) (sym told) (none w e (plan_reply plan) (building_other e leads.building) has)
    told_has (Some old) new told has = subst (HasJob (next w e (plan_reply plan))) (sym told.1) (told_covers q.change refl old told.0 told.2 has)

  -- so the line keeps the job that is told of its plan
  pub told_keeps : ReroutingsKeepJobs → PoliciesKeepJobs → NoJobsStart → IsSteady s → IsWellFormed e → (reply : Reply) → reply ≡ plan_reply plan → (old new : Option Underway) → IsTold (length s.routing.ports) s.tag s.table q.change plan old new → KeepsJob s e reply old new
  told_keeps reroutings policies none steady formed reply is old new told = λ w core has.
      subst (λ (x : Reply). HasJob (next w e x) new) (sym is) (told_has reroutings policies none steady formed w core old new told has)

-- what is told for each line that asks for a request is told for this one
pub line_keeps : (s : State) (e : Event) (r : Routing) (is_rebuilt : Pair → Bool) (q : Request) (result : Result Reply Stop) (old new : Option Underway) → IsWellFormed e → Leads s e r is_rebuilt q
    → IfOk result (λ reply. (d : Event) (t : Routing) (test : Pair → Bool) → IsWellFormed d → Leads s d t test q → KeepsJob s d reply old new) → IfOk result (λ reply. KeepsJob s e reply old new)
line_keeps s e r is_rebuilt q (Ok reply) old new formed leads done = done e r is_rebuilt formed leads
line_keeps s e r is_rebuilt q (Err stop) old new formed leads done = tt

-- ---- room

-- the state is the same where room was reserved
pub same_state : (phase : Phase) (base : Ip) (size : ℕ) (names : Registered) (served served' : Served) (resolved : List (List Ip)) (classes classes' : Classes) (told told' : List (FinMap prefix_cmp Entry)) (installed installed' : Installed) (programs : List Programs)
    → served'.routes ≡ served.routes → served'.rules ≡ served.rules → served'.named ≡ served.named → classes'.tag ≡ classes.tag → classes'.kept ≡ classes.kept → told' ≡ told → installed'.table ≡ installed.table → installed'.capacity ≡ installed.capacity
    → state_of phase base size names served' resolved classes' told' installed' programs ≡ state_of phase base size names served resolved classes told installed programs
same_state phase base size names served served' resolved classes classes' told told' installed installed' programs routes rules named tag kept same table capacity = λ i. record {
  phase = phase;
  base = base;
  size = size;
  capacity = capacity i;
  routing = record { participants = names.participants; ports = names.ports; rules = rules i; named = named i; routes = routes i };
  outbound = outbound_texts programs;
  inbound = inbound_texts programs;
  tag = tag i;
  kept = kept i;
  told = same i;
  resolved = resolved;
  table = table i;
  owed = None;
}

-- what holds holds after a fault
pub err_here : {T E P : Type 0} (result : Result T E) → P → OnErr result P
err_here (Ok x) p = tt
err_here (Err e) p = p
