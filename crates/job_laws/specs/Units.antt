-- A job starts, and goes on (this exchange's own rule).
use Rattle.std.specs.Prelude.{◌≡◌, ℕ, ◌-◌, ◌<◌, Some, None}
use Rattle.events.specs.After.{all_units, next, running}
use Rattle.events.specs.Fits.{Fits, bare}
use Rattle.events.specs.Refusals.{refusal}
use Rattle.events.specs.State.{State}
use Rattle.events.specs.declared.Event.TheVariants.{Recompile, Work}
use Rattle.events.specs.declared.Head.TheVariants.{Working}
use Rattle.job_laws.specs.Jobs.{IsSteadyInJob}

-- the running state with a job that owes so many units
abbrev pub owing : State → ℕ → State
owing s units = running (record s { owed = Some units })

-- `recompile` is answered with all units, and the job owes them
abbrev pub RecompilesAreAccepted : Type 0
RecompilesAreAccepted =
    (s : State) → IsSteadyInJob s → refusal s Recompile ≡ None
    → let reply = bare (Working (all_units s)) in (next s Recompile reply ≡ owing s (all_units s)) × Fits s Recompile reply × IsSteadyInJob (owing s (all_units s))

-- `work` of fewer units than the job owes is answered with the rest, which the job owes then
abbrev pub WorksAreAccepted : Type 0
WorksAreAccepted =
    (s : State) (units owed : ℕ) → IsSteadyInJob s → refusal s (Work units) ≡ None → s.owed ≡ Some owed → units < owed
    → let reply = bare (Working (owed - units)) in (next s (Work units) reply ≡ owing s (owed - units)) × Fits s (Work units) reply × IsSteadyInJob (owing s (owed - units))
