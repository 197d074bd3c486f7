-- Each line has a reply that fits, with a job as without one.
use Rattle.std.proofs.Common.{◌≡◌, ◌⊎◌, ℕ, ◌-◌, ◌≤◌, ◌<◌, Bool, true, false, cond, ◌&&◌, List, [], ◌∷◌, ◌++◌, length, ap, sym, subst, ◌∙◌, refl, arith, inl, inr}
use Rattle.std.specs.Prelude.{Option, Some, None, is_some, unwrap_or}
use Rattle.std.specs.FinMap.{get, keys}
use Rattle.std.specs.Option.{option_map}
use Rattle.std.proofs.lemmas.Bool.{cases_lt}
use Rattle.block_build.proofs.TightLemmas.{sifted-form, tight_forms_stay_right}
use Rattle.block_build.specs.Tight.{sifted}
use Rattle.events.specs.After.{all_units, merged, next}
use Rattle.events.specs.Fits.{Fits, FitsBy, IsTightened, added, bare, dropped, has_other_rules, is_of_job, tag_changes}
use Rattle.events.specs.Forms.{IsWellFormed}
use Rattle.events.specs.Legal.{LegalFrom}
use Rattle.events.specs.Refusals.{is_placed, refusal, suits_job}
use Rattle.events.specs.Sound.{IsRight, IsTight}
use Rattle.events.specs.State.{State, ArePolicies, first}
use Rattle.events.specs.Tags.{is_live_pair}
use Rattle.events.specs.declared.Event.{Event}
use Rattle.events.specs.declared.Event.TheVariants.{Recompile, Work}
use Rattle.events.specs.declared.Head.TheVariants.{Working, Finished, Refused}
use Rattle.events.specs.declared.Refusal.{Refusal}
use Rattle.events.specs.declared.Refusal.TheVariants.{Misplaced}
use Rattle.events.specs.declared.Reply.{Reply}
use Rattle.exchange_laws.proofs.Lists.{TableOf, get_tabulated, key_Member}
use Rattle.exchange_laws.proofs.ReadPolicies.{policies_are_one}
use Rattle.exchange_laws.specs.Rules.{IsRightAt}
use Rattle.exchange_laws.specs.Steady.{IsSteady}
use Rattle.job_laws.proofs.AllSteps.{all_steps_stay_steady, first_steady}
use Rattle.job_laws.proofs.EndedJobs.{jobs_end}
use Rattle.job_laws.proofs.JobUnits.{recompiles_are_accepted, works_are_accepted}
use Rattle.job_laws.proofs.MergedStates.{pair_was_live, part_stays}
use Rattle.job_laws.proofs.OtherLines.{fits_alike, owed_policies}
use Rattle.job_laws.specs.Ending.{IsTableAtEnd}
use Rattle.job_laws.specs.Jobs.{IsSteadyInJob, without_job}
use Rattle.job_laws.specs.Replying.{AllLinesHaveReplies, AllRunsGoOn}
use Rattle.net_types.proofs.OrderLemmas.{pairs_total}
use Rattle.net_types.specs.Answers.{Policies, part_answer}
use Rattle.net_types.specs.Cells.{cell_atoms}
use Rattle.net_types.specs.Keys.{pair_cmp}
use Rattle.net_types.specs.Maps.{tabulate}
use Rattle.net_types.specs.Sets.{Member}
use Rattle.net_types.specs.declared.rule.Pair.{Pair}
use Rattle.net_types.specs.declared.rule.Rule.{Rule}
use Rattle.reply_laws.proofs.EveryLine.{lines_have_replies}
use Rattle.reply_laws.proofs.PortMacs.{ports_keep_macs}
use Rattle.reply_laws.specs.Replying.{HasOctets, PortsHaveMacs}
use Rattle.net_types.proofs.TieLemmas.{pair_tie}

-- ---- a table for the end of a job

module _ (s : State) (steady : IsSteady (without_job s)) where
  -- what is left of the rules of a pair that stays live
  abbrev left : Pair → Option (List Rule)
  left pair = cond (is_live_pair (merged s) pair) (option_map (sifted []) (get s.table pair)) None

  abbrev table : TableOf
  table = tabulate pair_cmp (keys s.table) left

  had_rules : (b : Bool) (o : Option (List Rule)) → is_some (cond b (option_map (sifted []) o) None) ≡ true → is_some o ≡ true
  had_rules true None e = e
  had_rules true (Some rules) e = refl
  had_rules false o e = absurd (cc)

  table_is : (pair : Pair) → get table pair ≡ left pair
  table_is pair = get_tabulated pair_cmp pairs_total pair_tie left (keys s.table) (λ q has. key_Member pair_cmp pairs_total pair_tie s.table q (had_rules (is_live_pair (merged s) q) (get s.table q) has)) pair

  -- rules of a pair are what is left of those that it had
  record IsSifted (pair : Pair) (rules : List Rule) : Type 0 where
    live : is_live_pair (merged s) pair ≡ true
    old : List Rule
    had : get s.table pair ≡ Some old
    is : rules ≡ sifted [] old

  sifted_from : (pair : Pair) (rules : List Rule) → get table pair ≡ Some rules → IsSifted pair rules
  sifted_from pair rules has = by (is_live_pair (merged s) pair) (get s.table pair) refl refl (sym (table_is pair) ∙ has)
    where
      by : (b : Bool) (o : Option (List Rule)) → is_live_pair (merged s) pair ≡ b → get s.table pair ≡ o → cond b (option_map (sifted []) o) None ≡ Some rules → IsSifted pair rules
      by true None live had e = absurd (cc)
      by true (Some old) live had e = record { live = live; old = old; had = had; is = let same : sifted [] old ≡ rules = cc in sym same }
      by false o live had e = absurd (cc)

  there : (pair : Pair) → is_some (left pair) ≡ is_live_pair (merged s) pair
  there pair = by (is_live_pair (merged s) pair) (get s.table pair) refl refl
    where
      by : (b : Bool) (o : Option (List Rule)) → is_live_pair (merged s) pair ≡ b → get s.table pair ≡ o → is_some (cond b (option_map (sifted []) o) None) ≡ b
      by true None live had = ap is_some (sym had) ∙ steady.sound.pairs pair ∙ pair_was_live s steady pair live
      by true (Some old) live had = refl
      by false o live had = refl

  right : (ps : Policies) → ArePolicies s ps → (pair : Pair) (rules : List Rule) → get table pair ≡ Some rules → IsRightAt ps (merged s) pair rules
  right ps are pair rules has =
      let from = sifted_from pair rules has in
      let before = subst (λ x. IsRightAt x s pair from.old) (policies_are_one steady.sound.right.1 (owed_policies s None ps are)) (steady.sound.right.2 pair from.old from.had) in (
        before.0,
        part_stays s steady pair from.live ∙ before.1,
        subst (λ rs. IsRight ps before.0 pair.port rs) (sym from.is) (tight_forms_stay_right pair.port (part_answer ps before.0) (cell_atoms ps pair.port before.0) from.old (sifted [] from.old) (sifted-form from.old) before.2),
      )

  fewer : (pair : Pair) → length (unwrap_or (get table pair) []) ≤ length (unwrap_or (get s.table pair) [])
  fewer pair = subst (λ o. length (unwrap_or o []) ≤ length (unwrap_or (get s.table pair) [])) (sym (table_is pair)) (by (is_live_pair (merged s) pair) (get s.table pair))
    where
      by : (b : Bool) (o : Option (List Rule)) → length (unwrap_or (cond b (option_map (sifted []) o) None) []) ≤ length (unwrap_or o [])
      by true None = omega arith
      by true (Some old) = (sifted-form old).fewer
      by false o = omega arith

  tightened : IsTightened s (record (merged s) { table = table })
  tightened = record {
    tight = λ pair rules has. let from = sifted_from pair rules has in subst IsTight (sym from.is) (sifted-form from.old).tight;
    fewer = fewer;
  }

  at_end : IsTableAtEnd s table
  at_end = record { pairs = λ pair. ap is_some (table_is pair) ∙ there pair; right = right; tightened = tightened }

  abbrev s1 : State
  s1 = record (merged s) { table = table }

  -- the reply that says what changes
  abbrev finished : Reply
  finished = record (bare Finished) { tags = tag_changes s.tag s1.tag; drops = dropped s s1 (has_other_rules s s1); adds = added s s1 (has_other_rules s s1) }

-- ---- a job's lines

ended_reply : (s : State) (units owed : ℕ) → IsSteadyInJob s → refusal s (Work units) ≡ None → s.owed ≡ Some owed → owed ≤ units → (r : Reply) × Fits s (Work units) r
ended_reply s units owed steady none runs all =
    let law = jobs_end s units owed (table s steady.steady) (finished s steady.steady) steady none runs all (at_end s steady.steady)
    (record { head = refl; tags = refl; drops = refl; adds = refl; adverts = refl; asks = refl; frames = refl; tightened = tightened s steady.steady }) in
    (finished s steady.steady, law.1)

work_reply : (s : State) (units : ℕ) (o : Option ℕ) → IsSteadyInJob s → refusal s (Work units) ≡ None → s.owed ≡ o → (r : Reply) × Fits s (Work units) r
work_reply s units None steady none runs =
    absurd (let stopped : cond (suits_job None (Work units) && is_placed s.phase (Work units)) None (Some Misplaced) ≡ None = subst (λ o. cond (suits_job o (Work units) && is_placed s.phase (Work units)) None (Some Misplaced) ≡ None) runs none in cc)
work_reply s units (Some owed) steady none runs = by (cases_lt units owed)
  where
    by : (units < owed) ⊎ (owed ≤ units) → (r : Reply) × Fits s (Work units) r
    by (inl more) = (bare (Working (owed - units)), (works_are_accepted s units owed steady none runs more).1)
    by (inr all) = ended_reply s units owed steady none runs all

own_reply : (s : State) (e : Event) → IsSteadyInJob s → is_of_job e ≡ true → refusal s e ≡ None → (r : Reply) × Fits s e r
own_reply s Recompile steady own none = (bare (Working (all_units s)), (recompiles_are_accepted s steady none).1)
own_reply s (Work units) steady own none = work_reply s units s.owed steady none refl
own_reply s e steady own none = absurd (cc)

-- ---- any line

pub all_lines_have_replies : AllLinesHaveReplies
all_lines_have_replies s e steady macs formed octets = by (is_of_job e) refl
  where
    stopped : (o : Option Refusal) → is_of_job e ≡ true → refusal s e ≡ o → (r : Reply) × Fits s e r
    stopped (Some why) own is = (bare (Refused why), subst (λ o. FitsBy o s e (bare (Refused why))) (sym is) refl)
    stopped None own none = own_reply s e steady own none

    by : (b : Bool) → is_of_job e ≡ b → (r : Reply) × Fits s e r
    by true own = stopped (refusal s e) own refl
    by false other = let r = lines_have_replies (without_job s) e steady.steady macs formed other octets in (r.0, fits_alike (without_job s) s.owed e r.0 other r.1)

-- ---- runs

-- replies to further lines
replies_from : (s : State) (fs : List Event) → IsSteadyInJob s → PortsHaveMacs s → ((e : Event) → Member e fs → IsWellFormed e × HasOctets e) → (more : List Reply) × LegalFrom s fs more
replies_from s [] steady macs written = ([], tt)
replies_from s (e ∷ fs) steady macs written =
    let here = written e (inl refl) in
    let r = all_lines_have_replies s e steady macs here.0 here.1 in
    let later = replies_from (next s e r.0) fs (all_steps_stay_steady s e r.0 steady here.0 r.1) (ports_keep_macs s e r.0 macs here.1) (λ x m. written x (inr m)) in
    (r.0 ∷ later.0, (r.1, later.1))

from_go_on : (s : State) (es fs : List Event) (rs : List Reply) → IsSteadyInJob s → PortsHaveMacs s → ((e : Event) → Member e (es ++ fs) → IsWellFormed e × HasOctets e) → LegalFrom s es rs
    → (more : List Reply) × LegalFrom s (es ++ fs) (rs ++ more)
from_go_on s [] fs [] steady macs written legal = replies_from s fs steady macs written
from_go_on s [] fs (r ∷ rs) steady macs written legal = absurd legal
from_go_on s (e ∷ es) fs [] steady macs written legal = absurd legal
from_go_on s (e ∷ es) fs (r ∷ rs) steady macs written legal =
    let here = written e (inl refl) in
    let later = from_go_on (next s e r) es fs rs (all_steps_stay_steady s e r steady here.0 legal.0) (ports_keep_macs s e r macs here.1) (λ x m. written x (inr m)) legal.1 in
    (later.0, (legal.0, later.1))

pub all_runs_go_on : AllRunsGoOn
all_runs_go_on es fs rs written legal = from_go_on first es fs rs first_steady (λ q m. elim m [ ]) written legal
