-- States in which a background job may run (this exchange's own rule).
use Rattle.std.specs.Prelude.{None}
use Rattle.events.specs.State.{State}
use Rattle.exchange_laws.specs.Steady.{IsSteady}
use Rattle.exchange_laws.specs.Unchanged.{OwesFew}

-- the state without its job
abbrev pub without_job : State → State
without_job s = record s { owed = None }

-- Without its job the state is steady, and a job that runs owes no more than a job may owe.
pub record IsSteadyInJob (s : State) : Type 0 where
  pub steady : IsSteady (without_job s)
  pub few : OwesFew s.owed
