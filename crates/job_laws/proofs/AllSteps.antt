-- Any line with a reply that fits leaves a state steady in which a job may run.
use Rattle.std.proofs.Common.{◌≡◌, ℕ, ◌-◌, ◌≤◌, Bool, true, false, nat_lt, ap, sym, subst, ◌∙◌, refl}
use Rattle.std.specs.Prelude.{Option, Some, None, MatchOption}
use Rattle.std.specs.Option.{option_map}
use Rattle.events.specs.After.{all_units, merged, next, next_by, put_flows, without_pairs}
use Rattle.events.specs.Fits.{FitsBy, bare, IsFinished, IsWorked, Passes, is_building, is_of_job}
use Rattle.events.specs.Forms.{IsWellFormed}
use Rattle.events.specs.Refusals.{refusal}
use Rattle.events.specs.Sound.{IsSound}
use Rattle.events.specs.State.{State, first}
use Rattle.events.specs.declared.Event.{Event}
use Rattle.events.specs.declared.Event.TheVariants.{Recompile, Work}
use Rattle.events.specs.declared.Head.TheVariants.{Working}
use Rattle.events.specs.declared.Refusal.{Refusal}
use Rattle.events.specs.declared.Reply.{Reply}
use Rattle.exchange_laws.proofs.Lists.{TableOf}
use Rattle.exchange_laws.proofs.SteadySteps.{runs_keep, starts_steady, steps_stay_steady}
use Rattle.exchange_laws.specs.Steady.{IsSteady}
use Rattle.exchange_laws.specs.Unchanged.{OwesFew}
use Rattle.job_laws.proofs.EndedJobs.{ended_steady}
use Rattle.job_laws.proofs.JobUnits.{all_few, owes_steady, rest_few, starts_later, works_later, works_leave}
use Rattle.job_laws.proofs.OtherLines.{fits_alike, leaves_alike}
use Rattle.job_laws.proofs.OwedUnits.{owed_after}
use Rattle.job_laws.specs.Jobs.{IsSteadyInJob, without_job}
use Rattle.job_laws.specs.Steps.{AllRunsStaySteady, AllStepsStaySteady, SteadyWithoutJobs}
use Rattle.job_laws.specs.Units.{owing}
use Rattle.reply_laws.proofs.NextStates.{next_holds}
use Rattle.run_laws.proofs.Answering.{ends_leave}

-- ---- without a job

pub steady_without_jobs : SteadyWithoutJobs
steady_without_jobs s = (
  λ steady. (record { steady = subst IsSteady (idle steady.idle) steady; few = subst OwesFew (sym steady.idle) tt }, steady.idle),
  λ is. subst IsSteady (sym (idle is.1)) is.0.steady,
)
  where
    idle : s.owed ≡ None → s ≡ without_job s
    idle none i = record s { owed = none i }

-- ---- a line that isn't a job's

few_left : (f : ℕ → ℕ) (o : Option ℕ) → ((n : ℕ) → n ≤ 1125899906842624 → f n ≤ 1125899906842624) → OwesFew o → OwesFew (option_map f o)
few_left f None keeps few = tt
few_left f (Some n) keeps few = keeps n few

few_next : (s : State) (e : Event) (r : Reply) → is_of_job e ≡ false → OwesFew s.owed → OwesFew (next s e r).owed
few_next s e r other few =
    let owed = owed_after s e other in
    next_holds (λ x. OwesFew x.owed) s e r r.head few (subst OwesFew (sym owed.is) (few_left owed.change s.owed owed.few few))

-- ---- a job's line

module _ (s : State) (r : Reply) (steady : IsSteadyInJob s) where
  went_on : (units owed : ℕ) → refusal s (Work units) ≡ None → s.owed ≡ Some owed → nat_lt units owed ≡ true → r ≡ bare (Working (owed - units)) → IsSteadyInJob (next s (Work units) r)
  went_on units owed none runs less is =
      let leaves : next s (Work units) r ≡ owing s (owed - units) = ap (next s (Work units)) is ∙ (λ i. record (works_leave s units owed runs less i) { table = s.table }) in
      subst IsSteadyInJob (sym leaves) (owes_steady s (owed - units) steady (works_later s units none) (rest_few s units owed steady runs))

  ended : (units owed : ℕ) → refusal s (Work units) ≡ None → s.owed ≡ Some owed → nat_lt units owed ≡ false → IsFinished s (next s (Work units) r) r → IsSound (next s (Work units) r) → IsSteadyInJob (next s (Work units) r)
  ended units owed none runs all finished sound =
      let table : TableOf = put_flows (without_pairs s.table r.drops) r.adds in
      let leaves : next s (Work units) r ≡ record (merged s) { table = table } = ap (λ h. next_by h s (Work units) r) finished.head ∙ (λ i. record (ends_leave s units owed runs all i) { table = table }) in
      subst IsSteadyInJob (sym leaves) (record { steady = ended_steady s table steady.steady (works_later s units none) (subst IsSound leaves sound); few = tt })

  worked_steady : (units : ℕ) (o : Option ℕ) → refusal s (Work units) ≡ None → s.owed ≡ o → MatchOption o ⊥ (λ owed. IsWorked (nat_lt units owed) s (next s (Work units) r) units owed r) → IsSound (next s (Work units) r)
      → IsSteadyInJob (next s (Work units) r)
  worked_steady units None none runs is sound = absurd is
  worked_steady units (Some owed) none runs is sound = by (nat_lt units owed) refl is
    where
      by : (b : Bool) → nat_lt units owed ≡ b → IsWorked b s (next s (Work units) r) units owed r → IsSteadyInJob (next s (Work units) r)
      by true less is = went_on units owed none runs less is
      by false all is = ended units owed none runs all is sound

  accepted_steady : (e : Event) → is_of_job e ≡ true → refusal s e ≡ None → Passes (is_building e) s e r → IsSteadyInJob (next s e r)
  accepted_steady Recompile own none is = subst IsSteadyInJob (sym (ap (next s Recompile) is.answer)) (owes_steady s (all_units s) steady (starts_later s none) (all_few s))
  accepted_steady (Work units) own none is = worked_steady units s.owed none refl is.answer is.sound
  accepted_steady e own none is = absurd (cc)

  own_step : (e : Event) (o : Option Refusal) → is_of_job e ≡ true → refusal s e ≡ o → FitsBy o s e r → IsSteadyInJob (next s e r)
  own_step e (Some why) own stopped fits = subst (λ x. IsSteadyInJob (next s e x)) (sym fits) steady
  own_step e None own none fits = accepted_steady e own none fits

-- ---- any line

pub all_steps_stay_steady : AllStepsStaySteady
all_steps_stay_steady s e r steady formed fits = by (is_of_job e) refl
  where
    by : (b : Bool) → is_of_job e ≡ b → IsSteadyInJob (next s e r)
    by true own = own_step s r steady e (refusal s e) own refl fits
    by false other = record {
      steady = subst IsSteady (sym (leaves_alike s e r other)) (steps_stay_steady (without_job s) e r steady.steady formed other (fits_alike s None e r other fits));
      few = few_next s e r other steady.few;
    }

-- before the first line no job runs
pub first_steady : IsSteadyInJob first
first_steady = record { steady = starts_steady; few = tt }

pub all_runs_stay_steady : AllRunsStaySteady
all_runs_stay_steady es rs formed legal = runs_keep IsSteadyInJob IsWellFormed all_steps_stay_steady first es rs formed first_steady legal
