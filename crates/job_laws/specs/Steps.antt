-- Any line in a state in which a job may run (this exchange's own rule).
use Rattle.std.specs.Prelude.{◌≡◌, ◌+◌, ◌↔◌, true, false, List, None}
use Rattle.std.specs.Option.{option_map}
use Rattle.events.specs.After.{after, all_units, next}
use Rattle.events.specs.Fits.{Fits, is_building, is_of_job}
use Rattle.events.specs.Forms.{IsWellFormed}
use Rattle.events.specs.Legal.{Legal, state_after}
use Rattle.events.specs.Refusals.{refusal}
use Rattle.events.specs.State.{State}
use Rattle.events.specs.Tags.{capped, more_units}
use Rattle.events.specs.declared.Event.{Event}
use Rattle.events.specs.declared.Reply.{Reply}
use Rattle.exchange_laws.specs.Rerouting.{IsRerouting, is_rerouting}
use Rattle.exchange_laws.specs.Steady.{IsSteady}
use Rattle.job_laws.specs.Jobs.{IsSteadyInJob, without_job}
use Rattle.net_types.specs.Exports.{Routing}
use Rattle.net_types.specs.Sets.{Member}

-- a steady state is one in which a job may run, and none does
abbrev pub SteadyWithoutJobs : Type 0
SteadyWithoutJobs = (s : State) → IsSteady s ↔ (IsSteadyInJob s × (s.owed ≡ None))

-- A line that isn't a job's has the same replies with a job as without one, and the same state after them, but for what the job
-- owes.
abbrev pub JobsLeaveLines : Type 0
JobsLeaveLines =
    (s : State) (e : Event) (r : Reply) → is_of_job e ≡ false
    → (Fits s e r ↔ Fits (without_job s) e r) × (without_job (next s e r) ≡ next (without_job s) e r)

-- after a line that builds no rules a job owes as much as before
abbrev pub UnitsStay : Type 0
UnitsStay = (s : State) (e : Event) → is_of_job e ≡ false → is_building e ≡ false → (after s e).owed ≡ s.owed

-- after a change of the routes it owes the units of the prefixes that were made carried and of the fresh tags besides
abbrev pub UnitsAreAdded : Type 0
UnitsAreAdded = (s : State) (e : Event) (r : Routing) → IsRerouting s e r → (after s e).owed ≡ option_map (λ n. capped (n + more_units s r)) s.owed

-- after another policy it owes all units of the state after it
abbrev pub UnitsStartAnew : Type 0
UnitsStartAnew =
    (s : State) (e : Event) → refusal s e ≡ None → is_building e ≡ true → is_rerouting e ≡ false → (after s e).owed ≡ option_map (λ n. all_units (after s e)) s.owed

-- any line that can be written, with a reply that fits, leaves a state steady in which a job may run
abbrev pub AllStepsStaySteady : Type 0
AllStepsStaySteady = (s : State) (e : Event) (r : Reply) → IsSteadyInJob s → IsWellFormed e → Fits s e r → IsSteadyInJob (next s e r)

-- so the state after any legal run is steady
abbrev pub AllRunsStaySteady : Type 0
AllRunsStaySteady = (es : List Event) (rs : List Reply) → ((e : Event) → Member e es → IsWellFormed e) → Legal es rs → IsSteadyInJob (state_after es rs)
