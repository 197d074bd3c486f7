-- An exchange with its job: what a line does to both.
use Rattle.std.proofs.Common.{◌≡◌, ℕ, ◌+◌, ◌-◌, ◌<◌, ◌≤◌, true, false, cond, sym, ap, subst, ◌∙◌, refl}
use Rattle.std.specs.Prelude.{Option, Some, None, is_some, List, [], length, Result, Ok, Err, IfOk, OnErr}
use Rattle.std.specs.Option.{option_map}
use Rattle.std.specs.FinMap.{FinMap, entries, keys}
use Rattle.events.specs.After.{all_units, next, running}
use Rattle.events.specs.Fits.{Fits, FitsBy, IsStep, bare, is_of_job}
use Rattle.events.specs.Forms.{IsWellFormed}
use Rattle.events.specs.Refusals.{is_placed, refusal, refusal_in_place}
use Rattle.events.specs.State.{State}
use Rattle.events.specs.Tags.{capped}
use Rattle.events.specs.declared.Event.{Event}
use Rattle.events.specs.declared.Event.TheVariants.{Bad, Exchange, Participant as DeclaresParticipant, Port as DeclaresPort, Update, Down, Export, Outbound, Inbound, Take, Drain, Arp, Resolve, Packet, Frame, Recompile, Work, Table}
use Rattle.events.specs.declared.Head.TheVariants.{Refused, Working}
use Rattle.events.specs.declared.Phase.{Phase}
use Rattle.events.specs.declared.Phase.TheVariants.{Declaring, Running, Start}
use Rattle.events.specs.declared.Refusal.{Refusal}
use Rattle.events.specs.declared.Refusal.TheVariants.{Misplaced}
use Rattle.events.specs.declared.Reply.{Reply}
use Rattle.exchange_core.specs.Jobs.{EndsJob, KeepsJob}
use Rattle.exchange_core.specs.Placed.{is_declared}
use Rattle.exchange_core.specs.Steps as core
use Rattle.exchange_laws.specs.Steady.{IsSteady}
use Rattle.exchange_laws.specs.Unchanged.{OwesFew}
use Rattle.job_laws.specs.Jobs.{IsSteadyInJob, without_job}
use Rattle.job_laws.specs.Steps.{AllStepsStaySteady, JobsLeaveLines}
use Rattle.job_laws.specs.Units.{RecompilesAreAccepted, WorksAreAccepted, owing}
use Rattle.job_upkeep.specs.Upkeep.{HasJob, JobsBegin}
use Rattle.net_types.specs.Keys.{pair_cmp}
use Rattle.net_types.specs.declared.memory.Memory.{Memory}
use Rattle.net_types.specs.declared.rule.Rule.{Rule}
use Rattle.prefix_classes.specs.Classes.{Classes}
use Rattle.recompile.specs.Changing.{CoversListed}
use Rattle.recompile.specs.Covering.{Covers}
use Rattle.recompile.specs.Setting.{Setting, setting, setting_of}
use Rattle.recompile.specs.Underway.{Underway}
use Rattle.recompile.specs.Working.{IsProgress}
use Rattle.recompile.specs.declared.swap.Progress.{Progress}
use Rattle.recompile.specs.declared.swap.Progress.TheVariants.{Ready}
use Rattle.recompile.specs.declared.swap.Swap.{Swap}
use Rattle.sdx_core.specs.Steps.{step_bound}
use Rattle.sdx_core.specs.View.{IsKept, with_job}

-- ---- the exchange and its job

-- without its job the state is the exchange's own
pub core_is : (s : State) (job : Option Underway) → IsSteady s → without_job (with_job s job) ≡ s
core_is s job steady = λ i. record s { owed = sym steady.idle i }

-- what a state owes is what its job owes
has_owed : (s : State) (job : Option Underway) → HasJob s job → s.owed ≡ option_map (λ (j : Underway). j.owed) job
has_owed s None has = has
has_owed s (Some j) has = has.0

-- a job may run in it
pub in_job : (s : State) (job : Option Underway) → IsSteady s → IsKept s job → IsSteadyInJob (with_job s job)
in_job s job steady kept = record { steady = subst IsSteady (sym (core_is s job steady)) steady; few = kept.few }

-- a refusal
pub refused_step : (s : State) (e : Event) (why : Refusal) (reply : Reply) → refusal s e ≡ Some why → reply ≡ bare (Refused why) → IsStep s e reply s
refused_step s e why reply refuses is = record {
  fits = subst (λ o. FitsBy o s e reply) (sym refuses) is;
  next = ap (next s e) (sym is);
}

-- ---- a line that isn't a job's

module _ (s s' : State) (job job' : Option Underway) (e : Event) (reply : Reply) (laws : JobsLeaveLines) (stays : AllStepsStaySteady) (steady : IsSteady s) (kept : IsKept s job) (formed : IsWellFormed e) (line : is_of_job e ≡ false)
    (step : IsStep s e reply s') (keeps : KeepsJob s e reply job job') where
  abbrev then : State
  then = next (with_job s job) e reply

  has_then : HasJob then job'
  has_then = keeps (with_job s job) (core_is s job steady) kept.has

  core_then : without_job then ≡ s'
  core_then = (laws (with_job s job) e reply line).1 ∙ ap (λ x. next x e reply) (core_is s job steady) ∙ sym step.next

  then_is : then ≡ with_job s' job'
  then_is = λ i. record (core_then i) { owed = has_owed then job' has_then i }

  fits_then : Fits (with_job s job) e reply
  fits_then = (laws (with_job s job) e reply line).0.1 (subst (λ x. Fits x e reply) (sym (core_is s job steady)) step.fits)

  -- it is the step
  pub line_step : IsStep (with_job s job) e reply (with_job s' job')
  line_step = record { fits = fits_then; next = sym then_is }

  -- after which the job covers what there is
  pub line_kept : IsKept s' job'
  line_kept = record {
    has = subst (λ (x : State). HasJob x job') then_is has_then;
    few = subst (λ (x : State). OwesFew x.owed) then_is (stays (with_job s job) e reply (in_job s job steady kept) formed fits_then).few;
  }

-- so it is however the line ends
module _ (s s' : State) (job job' : Option Underway) (e : Event) (laws : JobsLeaveLines) (stays : AllStepsStaySteady) (steady : IsSteady s) (kept : IsKept s job) (formed : IsWellFormed e) (line : is_of_job e ≡ false) where
  pub step_by : (result : Result Reply Memory) → IfOk result (λ reply. IsStep s e reply s') → IfOk result (λ reply. KeepsJob s e reply job job') → IfOk result (λ reply. IsStep (with_job s job) e reply (with_job s' job'))
  step_by (Ok reply) step keeps = line_step s s' job job' e reply laws stays steady kept formed line step keeps
  step_by (Err m) step keeps = tt

  pub kept_by : (result : Result Reply Memory) → IfOk result (λ reply. IsStep s e reply s') → OnErr result (s' ≡ s) → IfOk result (λ reply. KeepsJob s e reply job job') → OnErr result (job' ≡ job) → IsKept s' job'
  kept_by (Ok reply) step same keeps alike = line_kept s s' job job' e reply laws stays steady kept formed line step keeps
  kept_by (Err m) step same keeps alike = subst (λ x. IsKept x job') (sym same) (subst (IsKept s) (sym alike) kept)

pub same_by : (s s' : State) (job job' : Option Underway) (result : Result Reply Memory) → OnErr result (s' ≡ s) → OnErr result (job' ≡ job) → OnErr result (with_job s' job' ≡ with_job s job)
same_by s s' job job' (Ok reply) same alike = tt
same_by s s' job job' (Err m) same alike = λ i. with_job (same i) (alike i)

-- its steps are those of the exchange without the job
pub line_bound : (s : State) (job : Option Underway) (e : Event) → IsSteady s → is_of_job e ≡ false → step_bound (with_job s job) e ≡ core.step_bound s e
line_bound s job e steady line = by e line ∙ ap (λ x. core.step_bound x e) (core_is s job steady)
  where
    by : (e : Event) → is_of_job e ≡ false → step_bound (with_job s job) e ≡ core.step_bound (without_job (with_job s job)) e
    by Bad own = refl
    by (Exchange base size capacity) own = refl
    by (DeclaresParticipant name asn id) own = refl
    by (DeclaresPort name number ip mac) own = refl
    by (Update name bytes) own = refl
    by (Down name) own = refl
    by (Export name text) own = refl
    by (Outbound name text) own = refl
    by (Inbound name text) own = refl
    by (Take name count) own = refl
    by (Drain name) own = refl
    by (Arp port bytes) own = refl
    by (Resolve port) own = refl
    by (Packet port bytes) own = refl
    by (Frame port bytes) own = refl
    by Recompile own = absurd (cc)
    by (Work units) own = absurd (cc)
    by Table own = refl

-- a job that isn't there is none
pub none_of : (job : Option Underway) → is_some job ≡ false → job ≡ None
none_of None is = refl
none_of (Some j) is = absurd (cc)

-- ---- a job starts

-- the settings that a job sees
pub setting_is : (s : State) (classes : Classes) (table : FinMap pair_cmp (List Rule)) → classes.tag ≡ s.tag → classes.kept ≡ s.kept → table ≡ s.table → setting classes table ≡ setting_of s
setting_is s classes table tag kept rules = λ i. record { tag = tag i; kept = kept i; table = rules i }

-- where a job runs, none starts
pub starts_beside : (s : State) (job : Option Underway) → is_some job ≡ true → refusal (with_job s job) Recompile ≡ Some Misplaced
starts_beside s None runs = absurd (cc)
starts_beside s (Some j) runs = refl

-- nor where the line isn't in place
pub starts_misplaced : (s : State) (job : Option Underway) → is_placed s.phase Recompile ≡ false → refusal (with_job s job) Recompile ≡ Some Misplaced
starts_misplaced s None early = ap (λ b. cond b (refusal_in_place (with_job s None) Recompile) (Some Misplaced)) early
starts_misplaced s (Some j) early = refl

-- else one does
pub starts : (s : State) → is_placed s.phase Recompile ≡ true → refusal (with_job s None) Recompile ≡ None
starts s placed = ap (λ b. cond b (refusal_in_place (with_job s None) Recompile) (Some Misplaced)) placed

-- then the pool is declared
pub starts_declared : (phase : Phase) → is_placed phase Recompile ≡ true → is_declared phase ≡ true
starts_declared Start placed = absurd (cc)
starts_declared Declaring placed = refl
starts_declared Running placed = refl

module _ (s : State) (j : Underway) (reply : Reply) (accepted : RecompilesAreAccepted) (begins : JobsBegin) (steady : IsSteady s) (kept : IsKept s None) (placed : is_placed s.phase Recompile ≡ true)
    (covers : CoversListed s.tag [] (keys s.table) j) (owes : j.owed ≡ capped (length (entries s.tag) + length (keys s.table))) (says : reply ≡ bare (Working j.owed)) where
  abbrev start : State
  start = with_job s None

  begun : (j.owed ≡ all_units start) × HasJob (next start Recompile (bare (Working j.owed))) (Some j)
  begun = begins start j (subst IsSteady (sym (core_is s None steady)) steady) covers owes

  units : j.owed ≡ all_units start
  units = begun.0

  started : (next start Recompile (bare (Working (all_units start))) ≡ owing start (all_units start)) × Fits start Recompile (bare (Working (all_units start))) × IsSteadyInJob (owing start (all_units start))
  started = accepted start (in_job s None steady kept) (starts s placed)

  start_next : next start Recompile (bare (Working j.owed)) ≡ owing start j.owed
  start_next = subst (λ n. next start Recompile (bare (Working n)) ≡ owing start n) (sym units) started.0

  pub started_step : IsStep start Recompile reply (with_job (running s) (Some j))
  started_step = record {
    fits = subst (Fits start Recompile) (sym says) (subst (λ n. Fits start Recompile (bare (Working n))) (sym units) started.1);
    next = sym start_next ∙ ap (next start Recompile) (sym says);
  }

  pub started_kept : IsKept (running s) (Some j)
  started_kept = record {
    has = subst (λ (x : State). HasJob x (Some j)) start_next begun.1;
    few = subst (λ n. n ≤ 1125899906842624) (sym units) started.2.few;
  }

-- ---- a job works

-- where no job runs, none works
pub works_without : (s : State) (job : Option Underway) (units : ℕ) → job ≡ None → refusal (with_job s job) (Work units) ≡ Some Misplaced
works_without s job units is = ap (λ o. refusal (with_job s o) (Work units)) is

-- nor where the line isn't in place
pub works_misplaced : (s : State) (job : Option Underway) (units : ℕ) → is_placed s.phase (Work units) ≡ false → refusal (with_job s job) (Work units) ≡ Some Misplaced
works_misplaced s None n early = refl
works_misplaced s (Some j) n early = ap (λ b. cond b (refusal_in_place (with_job s (Some j)) (Work n)) (Some Misplaced)) early

-- else it does
pub works : (s : State) (j : Underway) (units : ℕ) → is_placed s.phase (Work units) ≡ true → refusal (with_job s (Some j)) (Work units) ≡ None
works s j units placed = ap (λ b. cond b (refusal_in_place (with_job s (Some j)) (Work units)) (Some Misplaced)) placed

-- then the pool is declared
pub works_declared : (phase : Phase) (units : ℕ) → is_placed phase (Work units) ≡ true → is_declared phase ≡ true
works_declared Start units placed = absurd (cc)
works_declared Declaring units placed = refl
works_declared Running units placed = refl

module _ (s : State) (j j' : Underway) (units left : ℕ) (reply : Reply) (accepted : WorksAreAccepted) (steady : IsSteady s) (kept : IsKept s (Some j)) (placed : is_placed s.phase (Work units) ≡ true)
    (less : units < j.owed) (leaves : left ≡ j.owed - units) (owes : j'.owed ≡ left) (covers : Covers (setting_of s) j') (says : reply ≡ bare (Working left)) where
  abbrev work : State
  work = with_job s (Some j)

  rest : j'.owed ≡ j.owed - units
  rest = owes ∙ leaves

  is_worked : (next work (Work units) (bare (Working (j.owed - units))) ≡ owing work (j.owed - units)) × Fits work (Work units) (bare (Working (j.owed - units))) × IsSteadyInJob (owing work (j.owed - units))
  is_worked = accepted work units j.owed (in_job s (Some j) steady kept) (works s j units placed) refl less

  pub worked_step : IsStep work (Work units) reply (with_job (running s) (Some j'))
  worked_step = record {
    fits = subst (Fits work (Work units)) (sym says) (subst (λ n. Fits work (Work units) (bare (Working n))) (sym leaves) is_worked.1);
    next = sym (subst (λ n. next work (Work units) (bare (Working n)) ≡ owing work n) (sym rest) is_worked.0) ∙ ap (λ n. next work (Work units) (bare (Working n))) owes ∙ ap (next work (Work units)) (sym says);
  }

  pub worked_kept : IsKept (running s) (Some j')
  worked_kept = record {
    has = (refl, covers);
    few = subst (λ n. n ≤ 1125899906842624) (sym rest) is_worked.2.few;
  }

-- a job that owes as much as before, and covers as much, changes nothing
pub same_job : (s : State) (j j' : Underway) → j'.owed ≡ j.owed → with_job s (Some j') ≡ with_job s (Some j)
same_job s j j' owes = λ i. record s { owed = Some (owes i) }

pub same_kept : (s : State) (j j' : Underway) → IsKept s (Some j) → j'.owed ≡ j.owed → Covers (setting_of s) j' → IsKept s (Some j')
same_kept s j j' kept owes covers = record { has = (refl, covers); few = subst (λ n. n ≤ 1125899906842624) (sym owes) kept.few }

-- where the swap is ready the units are enough
pub ready_enough : (s : Setting) (units : ℕ) (old new : Underway) (p : Progress) (swap : Swap) → p ≡ Ready swap → IsProgress s units old new p → old.owed ≤ units
ready_enough s units old new p swap is progress = (subst (IsProgress s units old new) is progress).0

-- the job has ended
pub ended_step : (s s' : State) (j : Underway) (units : ℕ) (reply : Reply) → IsSteady s → IsSteady s' → IsKept s (Some j) → is_placed s.phase (Work units) ≡ true → j.owed ≤ units → EndsJob s reply s' → IsStep (with_job s (Some j)) (Work units) reply (with_job s' None)
ended_step s s' j units reply steady steady' kept placed enough ends =
    subst (IsStep (with_job s (Some j)) (Work units) reply) (sym (core_is s' None steady'))
    (ends (with_job s (Some j)) units j.owed (core_is s (Some j) steady) kept.few (works s j units placed) refl enough)

pub ended_kept : (s : State) → IsKept s None
ended_kept s = record { has = refl; few = tt }
