-- A job starts, and goes on.
use Rattle.std.proofs.Common.{◌≡◌, ℕ, ◌+◌, ◌-◌, ◌≤◌, Bool, true, false, cond, nat_lt, length, ap, sym, subst, ◌∙◌, refl, arith}
use Rattle.std.specs.Prelude.{Some, None, MatchOption}
use Rattle.std.proofs.lemmas.Bool.{lt-ltb}
use Rattle.events.specs.After.{after, all_units, merged, next, running, with_known, worked}
use Rattle.events.specs.Fits.{IsAnswer, IsWorked, all_flows, bare}
use Rattle.events.specs.Refusals.{is_placed, refusal}
use Rattle.events.specs.Sound.{IsSound}
use Rattle.events.specs.State.{State}
use Rattle.events.specs.Tags.{carried, live_pairs}
use Rattle.events.specs.declared.Event.TheVariants.{Recompile, Work, Table}
use Rattle.events.specs.declared.Head.TheVariants.{Fine, Working}
use Rattle.events.specs.declared.Phase.{Phase}
use Rattle.events.specs.declared.Phase.TheVariants.{Start, Declaring, Running}
use Rattle.events.specs.declared.Refusal.TheVariants.{Misplaced}
use Rattle.events.specs.declared.Reply.{Reply}
use Rattle.exchange_laws.proofs.FullTables.{accepted_lines_fit}
use Rattle.exchange_laws.proofs.Lists.{clash}
use Rattle.exchange_laws.proofs.QuietLines.{quiet_lines_are_accepted}
use Rattle.exchange_laws.proofs.Rerouted.{passes}
use Rattle.exchange_laws.proofs.SteadySteps.{steps_stay_steady}
use Rattle.exchange_laws.specs.Steady.{IsSteady}
use Rattle.exchange_laws.specs.Unchanged.{OwesFew}
use Rattle.job_laws.proofs.OtherLines.{owed_sound}
use Rattle.job_laws.proofs.OwedUnits.{capped_few}
use Rattle.job_laws.specs.Jobs.{IsSteadyInJob, without_job}
use Rattle.job_laws.specs.Units.{RecompilesAreAccepted, WorksAreAccepted, owing}

-- ---- phases

-- a job's line is in place after the start alone
pub starts_later : (s : State) → refusal s Recompile ≡ None → s.phase ≡ Start → ⊥
starts_later s none start = clash (passes s Recompile none).0 (ap (λ phase. is_placed phase Recompile) start)

pub works_later : (s : State) (units : ℕ) → refusal s (Work units) ≡ None → s.phase ≡ Start → ⊥
works_later s units none start = clash (passes s (Work units) none).0 (ap (λ phase. is_placed phase (Work units)) start)

not_refused : (s : State) → (s.phase ≡ Start → ⊥) → refusal s Table ≡ None
not_refused s later = by s.phase refl
  where
    by : (phase : Phase) → s.phase ≡ phase → cond (is_placed phase Table) None (Some Misplaced) ≡ None
    by Start start = absurd (later start)
    by Declaring is = refl
    by Running is = refl

-- the line `table` changes nothing but the phase
pub runs_steady : (s : State) → IsSteady s → (s.phase ≡ Start → ⊥) → IsSteady (running s)
runs_steady s steady later =
    let reply : Reply = record (bare Fine) { adds = all_flows s } in
    let none : refusal s Table ≡ None = not_refused s later in
    let law = quiet_lines_are_accepted s Table reply steady tt refl none refl refl in
    subst IsSteady law.0 (steps_stay_steady s Table reply steady tt refl law.1)

-- ---- a job that owes

-- whatever a job owes, the running state is steady
pub owes_steady : (s : State) (units : ℕ) → IsSteadyInJob s → (s.phase ≡ Start → ⊥) → units ≤ 1125899906842624 → IsSteadyInJob (owing s units)
owes_steady s units steady later few = record { steady = runs_steady (without_job s) steady.steady later; few = few }

owes_sound : (s : State) (units : ℕ) → IsSteadyInJob s → (s.phase ≡ Start → ⊥) → IsSound (owing s units)
owes_sound s units steady later = owed_sound (running (without_job s)) (Some units) (runs_steady (without_job s) steady.steady later).sound

pub all_few : (s : State) → all_units s ≤ 1125899906842624
all_few s = capped_few (length (carried s.routing) + length (live_pairs s))

pub recompiles_are_accepted : RecompilesAreAccepted
recompiles_are_accepted s steady none =
    let later : s.phase ≡ Start → ⊥ = starts_later s none in (
      refl,
      accepted_lines_fit s Recompile (bare (Working (all_units s))) none (record { answer = refl; sound = owes_sound s (all_units s) steady later }),
      owes_steady s (all_units s) steady later (all_few s),
    )

-- ---- fewer units than it owes

-- the state after them
pub works_leave : (s : State) (units owed : ℕ) → s.owed ≡ Some owed → nat_lt units owed ≡ true → after s (Work units) ≡ owing s (owed - units)
works_leave s units owed runs more = ap (λ o. with_known s o (worked s units)) runs ∙ by (nat_lt units owed) more
  where
    by : (b : Bool) → b ≡ true → cond b (owing s (owed - units)) (merged s) ≡ owing s (owed - units)
    by true more = refl
    by false more = absurd (cc)

pub rest_few : (s : State) (units owed : ℕ) → IsSteadyInJob s → s.owed ≡ Some owed → owed - units ≤ 1125899906842624
rest_few s units owed steady runs = let few : owed ≤ 1125899906842624 = subst OwesFew runs steady.few in omega arith

pub works_are_accepted : WorksAreAccepted
works_are_accepted s units owed steady none runs more =
    let later : s.phase ≡ Start → ⊥ = works_later s units none in
    let rest : ℕ = owed - units in
    let reply : Reply = bare (Working rest) in
    let less : nat_lt units owed ≡ true = lt-ltb units owed more in
    let is : next s (Work units) reply ≡ owing s rest = λ i. record (works_leave s units owed runs less i) { table = s.table } in
    let answer : IsAnswer s (Work units) reply (next s (Work units) reply) =
    subst (λ o. MatchOption o ⊥ (λ n. IsWorked (nat_lt units n) s (next s (Work units) reply) units n reply)) (sym runs)
    (subst (λ b. IsWorked b s (next s (Work units) reply) units owed reply) (sym less) refl) in (
      is,
      accepted_lines_fit s (Work units) reply none (record { answer = answer; sound = subst IsSound (sym is) (owes_sound s rest steady later) }),
      owes_steady s rest steady later (rest_few s units owed steady runs),
    )
