-- What a background job beside the exchange is told of a line, and that it goes on covering (this exchange's own rule).
use Rattle.std.specs.Prelude.{◌≡◌, ℕ, ◌+◌, ◌*◌, ◌≤◌, List, ◌++◌, length, Option, Some, None}
use Rattle.std.specs.FinMap.{FinMap, entries, keys}
use Rattle.events.specs.After.{next}
use Rattle.events.specs.Fits.{IsStep}
use Rattle.events.specs.Refusals.{refusal}
use Rattle.events.specs.State.{State}
use Rattle.events.specs.Tags.{capped}
use Rattle.events.specs.declared.Event.{Event}
use Rattle.events.specs.declared.Event.TheVariants.{Work}
use Rattle.events.specs.declared.Reply.{Reply}
use Rattle.exchange_core.specs.declared.programs.PolicyChange.{PolicyChange}
use Rattle.exchange_core.specs.declared.programs.PolicyChange.TheVariants.{Inbound, Outbound, Stay}
use Rattle.exchange_laws.specs.Unchanged.{OwesFew}
use Rattle.fast_path.specs.Pairs.{staying}
use Rattle.fast_path.specs.declared.planned.Plan.{Plan}
use Rattle.job_laws.specs.Jobs.{without_job}
use Rattle.job_upkeep.specs.Upkeep.{HasJob, fresh_of}
use Rattle.net_types.specs.Keys.{pair_cmp, prefix_cmp}
use Rattle.net_types.specs.declared.address.Tag.{Tag}
use Rattle.net_types.specs.declared.rule.Pair.{Pair}
use Rattle.net_types.specs.declared.rule.Rule.{Rule}
use Rattle.recompile.specs.Changing.{CoversAfter, CoversListed}
use Rattle.recompile.specs.Underway.{Underway}

-- A state that has a job, or none, has this one after the line; the exchange is the state without it.
abbrev pub KeepsJob : State → Event → Reply → Option Underway → Option Underway → Type 0
KeepsJob core e reply old new = (s : State) → without_job s ≡ core → HasJob s old → HasJob (next s e reply) new

-- The line by which a job ends has this reply, and leaves this exchange: whichever job it is, and however many units it owes.
abbrev pub EndsJob : State → Reply → State → Type 0
EndsJob core reply after =
    (s : State) (units owed : ℕ) → without_job s ≡ core → OwesFew s.owed → refusal s (Work units) ≡ None → s.owed ≡ Some owed → owed ≤ units → IsStep s (Work units) reply after

-- The job owes the units of what a plan changes besides, and covers what it leaves.
pub record IsToldChanges (ports : ℕ) (plan : Plan) (old new : Underway) : Type 0 where
  pub owed : new.owed ≡ capped (old.owed + (plan.newly + length (fresh_of plan) * (ports + 1)))
  pub covers : CoversAfter (fresh_of plan) plan.emptied.items plan.added old new

-- the pairs of a table once a plan is committed
abbrev pub pairs_with : FinMap pair_cmp (List Rule) → Plan → List Pair
pairs_with table plan = staying plan.drops (keys table) ++ plan.added

-- The job has begun anew, for what a plan leaves.
pub record IsToldPolicy (tags : FinMap prefix_cmp Tag) (table : FinMap pair_cmp (List Rule)) (plan : Plan) (new : Underway) : Type 0 where
  pub owed : new.owed ≡ capped (length (entries tags) + length (pairs_with table plan))
  pub covers : CoversListed tags (fresh_of plan) (pairs_with table plan) new

-- a job is told that the routes change, or a policy
abbrev pub IsToldBy : ℕ → FinMap prefix_cmp Tag → FinMap pair_cmp (List Rule) → PolicyChange → Plan → Underway → Underway → Type 0
IsToldBy ports tags table Stay plan old new = IsToldChanges ports plan old new
IsToldBy ports tags table (Outbound who program) plan old new = IsToldPolicy tags table plan new
IsToldBy ports tags table (Inbound who program) plan old new = IsToldPolicy tags table plan new

-- where a job runs it is told
abbrev pub IsTold : ℕ → FinMap prefix_cmp Tag → FinMap pair_cmp (List Rule) → PolicyChange → Plan → Option Underway → Option Underway → Type 0
IsTold ports tags table change plan None new = new ≡ None
IsTold ports tags table change plan (Some old) new = (j : Underway) × (new ≡ Some j) × IsToldBy ports tags table change plan old j
