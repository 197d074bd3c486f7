-- Lines that build no rules leave a job as it is, and a job begins.
use Rattle.std.proofs.Common.{◌≡◌, ◌+◌, false, [], length, sym, ap, subst, ◌∙◌, inl}
use Rattle.std.specs.Prelude.{Option, Some, None}
use Rattle.std.specs.FinMap.{entries, keys}
use Rattle.events.specs.After.{all_units, next}
use Rattle.events.specs.Fits.{is_of_job}
use Rattle.events.specs.State.{State}
use Rattle.events.specs.Tags.{capped, carried}
use Rattle.events.specs.declared.Event.{Event}
use Rattle.events.specs.declared.Reply.{Reply}
use Rattle.exchange_laws.proofs.Lists.{key_Member}
use Rattle.exchange_laws.specs.Counts.{PairsAreLive}
use Rattle.exchange_laws.specs.Steady.{StepsStaySteady}
use Rattle.job_laws.specs.Jobs.{without_job}
use Rattle.job_laws.specs.Steps.{JobsLeaveLines, UnitsStay}
use Rattle.job_upkeep.proofs.Carried.{entries_carried, no_more}
use Rattle.job_upkeep.proofs.Few.{few_steady}
use Rattle.job_upkeep.proofs.Quiet.{quiet_owed, quiet_stays, stays_change}
use Rattle.job_upkeep.specs.Upkeep.{HasJob, JobsBegin, NoJobsStart, QuietLinesKeepJobs, RefusedLinesKeepJobs, SteadySettingsAreFew}
use Rattle.net_types.proofs.OrderLemmas.{pairs_total}
use Rattle.net_types.specs.Keys.{pair_cmp}
use Rattle.recompile.specs.Changing.{IsListed, QuietChangesKeepJobs}
use Rattle.recompile.specs.Covering.{Covers}
use Rattle.recompile.specs.Setting.{setting_of}
use Rattle.recompile.specs.Underway.{Underway}
use Rattle.net_types.proofs.TieLemmas.{pair_tie}

pub settings_are_few : SteadySettingsAreFew
settings_are_few s steady = few_steady (without_job s) steady

pub refused_keep : RefusedLinesKeepJobs
refused_keep s e why job has = has

-- what a job works on is the same without it
pub setting_without : JobsLeaveLines → (s : State) (e : Event) (r : Reply) → is_of_job e ≡ false → setting_of (next s e r) ≡ setting_of (next (without_job s) e r)
setting_without leave s e r other = ap setting_of (leave s e r other).1

pub quiet_keep : StepsStaySteady → JobsLeaveLines → UnitsStay → QuietChangesKeepJobs → QuietLinesKeepJobs
quiet_keep steps leave units changes s e r job steady formed other quiet fits has = by job has
  where
    by : (o : Option Underway) → HasJob s o → HasJob (next s e r) o
    by None none = quiet_owed units s e r other quiet ∙ none
    by (Some j) has_job = (
      quiet_owed units s e r other quiet ∙ has_job.0,
      subst (λ x. Covers x j) (sym (setting_without leave s e r other))
          (changes (setting_of s) (setting_of (next (without_job s) e r)) j has_job.1
          (stays_change (without_job s) (next (without_job s) e r) (quiet_stays (without_job s) e r other quiet fits)
          (few_steady (next (without_job s) e r) (steps (without_job s) e r steady formed other fits)))),
    )

-- ---- a job begins

pub begin : PairsAreLive → JobsBegin
begin live s j steady covers owed = (units, (ap Some (sym units), covers (setting_of s) listed))
  where
    units : j.owed ≡ all_units s
    units = owed ∙ ap capped (
        ap (λ n. n + length (keys s.table)) (entries_carried (without_job s) steady.sound)
        ∙ ap (λ ks. length (carried s.routing) + length ks) (live (without_job s) steady.sound steady.pooled)
        )

    listed : IsListed (setting_of s) s.tag [] (keys s.table)
    listed = let few = few_steady (without_job s) steady in record {
      prefixes = no_more (length (entries s.tag));
      tags = λ t has. inl has;
      pairs = λ pair there. key_Member pair_cmp pairs_total pair_tie s.table pair there;
      few = few;
    }

-- ---- without a job

pub none_start : JobsLeaveLines → NoJobsStart
none_start leave s e r other none =
    let idle : s ≡ without_job s = λ i. record s { owed = none i } in
    ap (λ (x : State). (next x e r).owed) idle ∙ ap (λ (x : State). x.owed) (sym (leave s e r other).1)
