-- A background job covers the state that any line leaves (this exchange's own rule).
use Rattle.std.specs.Prelude.{◌≡◌, ◌+◌, ◌*◌, ◌≤◌, Bool, true, false, List, [], ◌++◌, length, Option, Some, None}
use Rattle.std.specs.FinMap.{entries, keys}
use Rattle.events.specs.After.{all_units, next}
use Rattle.events.specs.Fits.{Fits, bare, is_building, is_of_job}
use Rattle.events.specs.Forms.{IsWellFormed}
use Rattle.events.specs.State.{State}
use Rattle.events.specs.Tags.{capped}
use Rattle.events.specs.declared.Event.{Event}
use Rattle.events.specs.declared.Event.TheVariants.{Recompile}
use Rattle.events.specs.declared.Head.TheVariants.{Refused, Working}
use Rattle.events.specs.declared.Refusal.{Refusal}
use Rattle.events.specs.declared.Reply.{Reply}
use Rattle.exchange_laws.specs.Editing.{IsEdit}
use Rattle.exchange_laws.specs.Rerouting.{is_rerouting}
use Rattle.exchange_laws.specs.Steady.{IsSteady}
use Rattle.fast_path.specs.Carried.{IsPlanned, plan_reply}
use Rattle.fast_path.specs.Committing.{signed, tags_of}
use Rattle.fast_path.specs.Pairs.{staying}
use Rattle.fast_path.specs.Plans.{planned}
use Rattle.fast_path.specs.declared.planned.Plan.{Plan}
use Rattle.job_laws.specs.Jobs.{without_job}
use Rattle.net_types.specs.Exports.{Routing}
use Rattle.net_types.specs.declared.address.Tag.{Tag}
use Rattle.net_types.specs.declared.rule.Pair.{Pair}
use Rattle.recompile.specs.Changing.{CoversAfter, CoversListed, IsChange}
use Rattle.recompile.specs.Covering.{AreFew, Covers}
use Rattle.recompile.specs.Setting.{setting_of}
use Rattle.recompile.specs.Underway.{Underway}

-- the state has this job, which covers what it works on, or none
abbrev pub HasJob : State → Option Underway → Type 0
HasJob s None = s.owed ≡ None
HasJob s (Some j) = (s.owed ≡ Some j.owed) × Covers (setting_of s) j

-- the tags of a steady state are few
abbrev pub SteadySettingsAreFew : Type 0
SteadySettingsAreFew = (s : State) → IsSteady (without_job s) → AreFew (setting_of s)

-- ---- lines that build no rules

-- a refused line leaves the job as it is
abbrev pub RefusedLinesKeepJobs : Type 0
RefusedLinesKeepJobs = (s : State) (e : Event) (why : Refusal) (job : Option Underway) → HasJob s job → HasJob (next s e (bare (Refused why))) job

-- so does a line that builds no rules
abbrev pub QuietLinesKeepJobs : Type 0
QuietLinesKeepJobs =
    (s : State) (e : Event) (reply : Reply) (job : Option Underway) → IsSteady (without_job s) → IsWellFormed e → is_of_job e ≡ false → is_building e ≡ false → Fits (without_job s) e reply
    → HasJob s job → HasJob (next s e reply) job

-- where no job runs, none runs after a line that isn't a job's
abbrev pub NoJobsStart : Type 0
NoJobsStart = (s : State) (e : Event) (reply : Reply) → is_of_job e ≡ false → s.owed ≡ None → (next s e reply).owed ≡ None

-- ---- lines that build rules

-- the fresh tags of a plan
abbrev pub fresh_of : Plan → List Tag
fresh_of plan = tags_of (signed plan.fresh.items)

-- a plan says what becomes of what a job works on
abbrev pub PlansTellChanges : Type 0
PlansTellChanges =
    (s : State) (e : Event) (s0 : State) (r : Routing) (is_rebuilt : Pair → Bool) (plan : Plan)
    → IsSteady s → IsWellFormed e → IsEdit s e s0 r is_rebuilt → IsPlanned s0 r is_rebuilt plan
    → IsChange (setting_of s0) (setting_of (planned s0 r plan)) (fresh_of plan) plan.emptied.items plan.added

-- where the routes change, it adds at most so many pairs for a fresh tag as there are ports
abbrev pub AddedAreFew : Type 0
AddedAreFew =
    (s : State) (e : Event) (r : Routing) (is_rebuilt : Pair → Bool) (plan : Plan) → IsSteady s
    → is_rerouting e ≡ true → IsEdit s e s r is_rebuilt → IsPlanned s r is_rebuilt plan → length plan.added ≤ length plan.fresh.items * length s.routing.ports

-- a job that is told of them covers what the line leaves
abbrev pub ReroutingsKeepJobs : Type 0
ReroutingsKeepJobs =
    (s : State) (e : Event) (r : Routing) (is_rebuilt : Pair → Bool) (plan : Plan) (old new : Underway)
    → let c = without_job s in IsSteady c → IsWellFormed e → is_rerouting e ≡ true → IsEdit c e c r is_rebuilt → IsPlanned c r is_rebuilt plan
    → let fresh = fresh_of plan in
    CoversAfter fresh plan.emptied.items plan.added old new → new.owed ≡ capped (old.owed + (plan.newly + length fresh * (length c.routing.ports + 1)))
    → HasJob s (Some old) → HasJob (next s e (plan_reply plan)) (Some new)

-- the pairs of the table after a plan, each once: those that stay, and those that come
abbrev pub pairs_after : State → Plan → List Pair
pairs_after s plan = staying plan.drops (keys s.table) ++ plan.added

-- after another policy a job that begins anew covers what the line leaves
abbrev pub PoliciesKeepJobs : Type 0
PoliciesKeepJobs =
    (s : State) (e : Event) (s0 : State) (r : Routing) (is_rebuilt : Pair → Bool) (plan : Plan) (old new : Underway)
    → let c = without_job s in IsSteady c → IsWellFormed e → is_rerouting e ≡ false → IsEdit c e s0 r is_rebuilt → IsPlanned s0 r is_rebuilt plan
    → let pairs = pairs_after c plan in
    CoversListed c.tag (fresh_of plan) pairs new → new.owed ≡ capped (length (entries c.tag) + length pairs)
    → HasJob s (Some old) → HasJob (next s e (plan_reply plan)) (Some new)

-- ---- a job begins

-- for what a state has, it owes all units, and covers the state after `recompile`
abbrev pub JobsBegin : Type 0
JobsBegin =
    (s : State) (j : Underway) → IsSteady (without_job s) → CoversListed s.tag [] (keys s.table) j → j.owed ≡ capped (length (entries s.tag) + length (keys s.table))
    → (j.owed ≡ all_units s) × HasJob (next s Recompile (bare (Working j.owed))) (Some j)
