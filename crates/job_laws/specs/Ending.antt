-- A job ends: what is live then, and what the table may have (this exchange's own rule).
use Rattle.std.specs.Prelude.{◌≡◌, ℕ, ◌≤◌, true, List, Some, None, is_some}
use Rattle.std.specs.FinMap.{FinMap, get}
use Rattle.events.specs.After.{merged, next}
use Rattle.events.specs.Fits.{Fits, IsFinished, IsTightened}
use Rattle.events.specs.Refusals.{refusal}
use Rattle.events.specs.Sound.{owners_part}
use Rattle.events.specs.State.{State, ArePolicies}
use Rattle.events.specs.Tags.{is_live, is_live_pair}
use Rattle.events.specs.declared.Event.TheVariants.{Work}
use Rattle.events.specs.declared.Reply.{Reply}
use Rattle.exchange_laws.specs.Rules.{IsRightAt}
use Rattle.exchange_laws.specs.Steady.{IsSteady}
use Rattle.job_laws.specs.Jobs.{IsSteadyInJob}
use Rattle.net_types.specs.Answers.{Policies}
use Rattle.net_types.specs.Keys.{pair_cmp}
use Rattle.net_types.specs.declared.address.Tag.{Tag}
use Rattle.net_types.specs.declared.rule.Pair.{Pair}
use Rattle.net_types.specs.declared.rule.Rule.{Rule}

-- a tag that is live at the end of a job was live, with the signature that is kept for it
abbrev pub MergedTagsWereLive : Type 0
MergedTagsWereLive =
    (s : State) → IsSteadyInJob s → (t : Tag) → is_live (merged s) t ≡ true → (is_live s t ≡ true) × (get (merged s).kept t ≡ get s.kept t)

-- a pair that is live at the end of a job was live
abbrev pub MergedPairsWereLive : Type 0
MergedPairsWereLive = (s : State) → IsSteadyInJob s → (pair : Pair) → is_live_pair (merged s) pair ≡ true → is_live_pair s pair ≡ true

-- and keeps its owner's part, so that rules that were right for it are right
abbrev pub RightRulesStay : Type 0
RightRulesStay =
    (s : State) → IsSteadyInJob s → (pair : Pair) → is_live_pair (merged s) pair ≡ true
    → (owners_part (merged s) pair ≡ owners_part s pair) × ((ps : Policies) (rules : List Rule) → IsRightAt ps s pair rules → IsRightAt ps (merged s) pair rules)

-- A table for the end of a job: it has exactly the pairs that are live then, each with rules that are right and tight, and no
-- more than it had.
pub record IsTableAtEnd (s : State) (table : FinMap pair_cmp (List Rule)) : Type 0 where
  pub pairs : (pair : Pair) → is_some (get table pair) ≡ is_live_pair (merged s) pair
  pub right : (ps : Policies) → ArePolicies s ps → (pair : Pair) (rules : List Rule) → get table pair ≡ Some rules → IsRightAt ps (merged s) pair rules
  pub tightened : IsTightened s (record (merged s) { table = table })

-- With any such table `work` of as many units as the job owes, or more, is accepted with the reply that says which tags and
-- rules change, and leaves a steady state without a job.
abbrev pub JobsEnd : Type 0
JobsEnd =
    (s : State) (units owed : ℕ) (table : FinMap pair_cmp (List Rule)) (reply : Reply) → IsSteadyInJob s → refusal s (Work units) ≡ None → s.owed ≡ Some owed → owed ≤ units
    → IsTableAtEnd s table → let s1 = record (merged s) { table = table } in IsFinished s s1 reply
    → (next s (Work units) reply ≡ s1) × Fits s (Work units) reply × IsSteady s1
