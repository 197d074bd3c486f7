-- The table that the end of a job leaves: each live pair has the rules that were built for it, and no other pair has any.
use Rattle.std.proofs.Common.{◌≡◌, ◌≤◌, Bool, true, false, ◌&&◌, ◌||◌, not, List, [], ◌∷◌, length, map, ap, sym, subst, ◌∙◌, refl, arith}
use Rattle.std.specs.Prelude.{Option, Some, None, is_some, unwrap_or}
use Rattle.std.specs.Cmp.Lexicographic.{pointwise}
use Rattle.std.specs.FinMap.{get}
use Rattle.std.proofs.lemmas.Bool.{and_parts, not-false}
use Rattle.block_build.proofs.TightLemmas.{tight_forms_stay_right}
use Rattle.block_build.specs.Tight.{IsTightForm}
use Rattle.events.specs.After.{merged, without_pairs}
use Rattle.events.specs.Fits.{IsTightened, has_other_rules}
use Rattle.events.specs.Sound.{same_rule}
use Rattle.events.specs.State.{State, ArePolicies}
use Rattle.events.specs.Tags.{is_live_pair}
use Rattle.exchange_laws.proofs.Lists.{TableOf, clash, is_some_of}
use Rattle.exchange_laws.proofs.ReadPolicies.{policies_are_one}
use Rattle.exchange_laws.specs.Listed.{comes, goes, is_pair_before}
use Rattle.exchange_laws.specs.Rules.{IsRightAt, is_new}
use Rattle.fast_path.proofs.CommittedMaps.{AreApart, apart_from_rising, get_with_others, get_with_those, get_without_others, get_without_those}
use Rattle.fast_path.proofs.CommittedTable.{with_is, without_is}
use Rattle.fast_path.specs.Committing.{Block}
use Rattle.fast_path.specs.Plans.{pair_of}
use Rattle.job_end.proofs.ChangedPairs.{second}
use Rattle.job_end.specs.Ends.{IsEnd, ended, is_other}
use Rattle.job_end.specs.Rebuilt.{IsFewer, are_others, blocks_of}
use Rattle.job_end.specs.declared.ended.End.{End}
use Rattle.job_laws.proofs.MergedStates.{pair_was_live, right_rules_stay}
use Rattle.block_build.proofs.SameRules.{rules_test}
use Rattle.job_laws.specs.Ending.{IsTableAtEnd}
use Rattle.job_laws.specs.Jobs.{IsSteadyInJob}
use Rattle.net_types.proofs.EqualLemmas.{option_test}
use Rattle.net_types.proofs.OrderLemmas.{pairs_total}
use Rattle.net_types.proofs.RisingLemmas.{before_itself}
use Rattle.net_types.proofs.SetLemmas.{Member-map}
use Rattle.net_types.specs.Answers.{Policies, part_answer}
use Rattle.net_types.specs.Attributes.{same_option}
use Rattle.net_types.specs.Cells.{cell_atoms}
use Rattle.net_types.specs.Keys.{pair_cmp}
use Rattle.net_types.specs.Sets.{IsRising, Member}
use Rattle.net_types.specs.declared.rule.Pair.{Pair}
use Rattle.net_types.specs.declared.rule.Rule.{Rule}
use Rattle.recompile.specs.Setting.{setting_of}
use Rattle.recompile.specs.Underway.{BuiltPairs}
use Rattle.recompile.specs.Working.{IsSwap}
use Rattle.recompile.specs.declared.swap.Swap.{Swap}
use Rattle.std.proofs.lemmas.Option.{same_Some}
use Rattle.net_types.proofs.TieLemmas.{pair_tie}
use Rattle.net_types.proofs.FindLemmas.{nothing}

-- the blocks of pairs are theirs
pub block_pairs : (built : BuiltPairs) (pairs : List Pair) → map pair_of (blocks_of built pairs) ≡ pairs
block_pairs built [] = refl
block_pairs built (pair ∷ pairs) = ap (λ ps. pair ∷ ps) (block_pairs built pairs)

-- rules that are made in the place of others are there
other_made : (made : Option (List Rule)) (old : List Rule) → are_others (Some old) made ≡ true → (rules : List Rule) × (made ≡ Some rules)
other_made None old others = absurd (cc)
other_made (Some rules) old others = (rules, refl)

-- and are those that come
made_is : (made : Option (List Rule)) (old : List Rule) → are_others (Some old) made ≡ true → Some (unwrap_or made []) ≡ Some (unwrap_or made old)
made_is None old others = absurd (cc)
made_is (Some rules) old others = refl

-- others are none, or the same
made_same : (made : Option (List Rule)) (old : List Rule) → are_others (Some old) made ≡ false → Some old ≡ Some (unwrap_or made old)
made_same None old same = refl
made_same (Some rules) old same = (option_test (pointwise same_rule) rules_test (Some old) (Some rules)).0 (not-false (same_option (pointwise same_rule) (Some old) (Some rules)) same)

-- so they tell whether the rules that come are others
others_tell : (made : Option (List Rule)) (old : List Rule) → not (same_option (pointwise same_rule) (Some old) (Some (unwrap_or made old))) ≡ are_others (Some old) made
others_tell None old = ap not ((option_test (pointwise same_rule) rules_test (Some old) (Some old)).1 refl)
others_tell (Some rules) old = refl

module _ (s : State) (swap : Swap) (end : End) (steady : IsSteadyInJob s) (is_swap : IsSwap (setting_of s) swap) (is : IsEnd s swap end) where
  abbrev s1 : State
  s1 = merged s

  -- the table without the pairs that go
  abbrev left : TableOf
  left = without_pairs s.table end.gone

  abbrev blocks : List Block
  blocks = blocks_of swap.built end.changed

  -- and with the rules that come
  abbrev pub table : TableOf
  table = (ended s swap end).table

  abbrev other : Pair → Bool
  other pair = is_other s swap.built pair

  blocks_apart : AreApart blocks
  blocks_apart = apart_from_rising (λ a b. is_pair_before a b) (before_itself pair_cmp pairs_total) blocks (subst (IsRising is_pair_before) (sym (block_pairs swap.built end.changed)) is.changed.rising)

  -- ---- what the table has at a pair

  -- the rules of a live pair, of which those that were built for it, or else they themselves, are a tight form
  pub record HasBuilt (pair : Pair) : Type 0 where
    pub old : List Rule
    pub had : get s.table pair ≡ Some old
    pub tight : IsTightForm old (unwrap_or (get swap.built pair) old)

  pub has_built : (pair : Pair) → is_live_pair s pair ≡ true → HasBuilt pair
  has_built pair live = by (get s.table pair) refl
    where
      by : (o : Option (List Rule)) → get s.table pair ≡ o → HasBuilt pair
      by (Some old) had = record { old = old; had = had; tight = is_swap.built pair old had }
      by None had = absurd (clash (steady.steady.sound.pairs pair ∙ live) (ap is_some had))

  -- a pair that stays live isn't taken out
  pub left_at : (pair : Pair) → is_live_pair s1 pair ≡ true → get left pair ≡ get s.table pair
  left_at pair now = ap (λ t. get t pair) (without_is s.table end.gone) ∙ get_without_others pair_cmp pairs_total pair_tie end.gone s.table pair (λ m. clash now (is.gone.each pair m).1)

  pub changed_at : (pair : Pair) → Member pair end.changed → get table pair ≡ Some (unwrap_or (get swap.built pair) [])
  changed_at pair m =
      let b : Block = (pair, unwrap_or (get swap.built pair) []) in
      ap (λ t. get t pair) (with_is left blocks)
      ∙ get_with_those pair_cmp pairs_total pair_tie blocks left blocks_apart b (Member-map (λ q. let c : Block = (q, unwrap_or (get swap.built q) []) in c) end.changed pair m)

  unchanged_at : (pair : Pair) → (Member pair end.changed → ⊥) → get table pair ≡ get left pair
  unchanged_at pair none =
      ap (λ t. get t pair) (with_is left blocks)
      ∙ get_with_others pair_cmp pairs_total pair_tie blocks left pair (λ b m at. none (subst (λ ps. Member pair ps) (block_pairs swap.built end.changed) (subst (λ q. Member q (map pair_of blocks)) at (Member-map pair_of blocks b m))))

  -- a live pair has the rules that were built for it, or those that it had
  pub live_at_end : (pair : Pair) → is_live_pair s1 pair ≡ true → (built : HasBuilt pair) → get table pair ≡ Some (unwrap_or (get swap.built pair) built.old)
  live_at_end pair now built = by (other pair) refl
    where
      live : is_live_pair s pair ≡ true
      live = pair_was_live s steady.steady pair now

      other_is : other pair ≡ are_others (Some built.old) (get swap.built pair)
      other_is = λ i. are_others (built.had i) (get swap.built pair)

      come : other pair ≡ true → comes s s1 other pair ≡ true
      come is_new_now = λ i. now i && (not (live i) || is_new_now i)

      by : (b : Bool) → other pair ≡ b → get table pair ≡ Some (unwrap_or (get swap.built pair) built.old)
      by true others =
          changed_at pair (is.changed.all pair (come others))
          ∙ made_is (get swap.built pair) built.old (sym other_is ∙ others)
      by false same =
          unchanged_at pair (λ m. clash (second (is_live_pair s pair) (other pair) live (and_parts (is_live_pair s1 pair) (is_new s other pair) (is.changed.each pair m)).1) same)
          ∙ left_at pair now
          ∙ built.had
          ∙ made_same (get swap.built pair) built.old (sym other_is ∙ same)

  -- and any other pair has none
  pub dead_at_end : (pair : Pair) → is_live_pair s1 pair ≡ false → get table pair ≡ None
  dead_at_end pair gone = unchanged_at pair (λ m. clash (and_parts (is_live_pair s1 pair) (is_new s other pair) (is.changed.each pair m)).0 gone) ∙ by (is_live_pair s pair) refl
    where
      by : (b : Bool) → is_live_pair s pair ≡ b → get left pair ≡ None
      by true live = ap (λ t. get t pair) (without_is s.table end.gone) ∙ get_without_those pair_cmp pairs_total pair_tie end.gone s.table pair (is.gone.all pair live gone)
      by false never =
          ap (λ t. get t pair) (without_is s.table end.gone)
          ∙ get_without_others pair_cmp pairs_total pair_tie end.gone s.table pair (λ m. clash (is.gone.each pair m).0 never)
          ∙ nothing (get s.table pair) (λ has. clash (sym (steady.steady.sound.pairs pair) ∙ has) never)

  -- ---- it is a table for the end

  pub pairs_at_end : (pair : Pair) → is_some (get table pair) ≡ is_live_pair s1 pair
  pairs_at_end pair = by (is_live_pair s1 pair) refl
    where
      by : (b : Bool) → is_live_pair s1 pair ≡ b → is_some (get table pair) ≡ is_live_pair s1 pair
      by true now = ap is_some (live_at_end pair now (has_built pair (pair_was_live s steady.steady pair now))) ∙ sym now
      by false gone = ap is_some (dead_at_end pair gone) ∙ sym gone

  -- the rules at the end are a tight form of those before
  pub record IsRebuilt (pair : Pair) (rules : List Rule) : Type 0 where
    pub now : is_live_pair s1 pair ≡ true
    pub old : List Rule
    pub had : get s.table pair ≡ Some old
    pub tight : IsTightForm old rules

  pub rebuilt : (pair : Pair) (rules : List Rule) → get table pair ≡ Some rules → IsRebuilt pair rules
  rebuilt pair rules at =
      let now : is_live_pair s1 pair ≡ true = sym (pairs_at_end pair) ∙ is_some_of (get table pair) rules at in
      let built = has_built pair (pair_was_live s steady.steady pair now) in
      let same : unwrap_or (get swap.built pair) built.old ≡ rules = same_Some (unwrap_or (get swap.built pair) built.old) rules (sym (live_at_end pair now built) ∙ at) in
      record { now = now; old = built.old; had = built.had; tight = subst (IsTightForm built.old) same built.tight }

  right_at_end : (ps : Policies) → ArePolicies s ps → (pair : Pair) (rules : List Rule) → get table pair ≡ Some rules → IsRightAt ps s1 pair rules
  right_at_end ps read pair rules at =
      let is_form = rebuilt pair rules at in
      let right = steady.steady.sound.right in
      let before : IsRightAt ps s pair is_form.old = subst (λ qs. IsRightAt qs s pair is_form.old) (policies_are_one {s = s} {ps = right.0} {qs = ps} (record { names = right.1.names; outbound = right.1.outbound; inbound = right.1.inbound }) read) (right.2 pair is_form.old is_form.had) in
      (right_rules_stay s steady pair is_form.now).1 ps rules (before.0, before.1, tight_forms_stay_right pair.port (part_answer ps before.0) (cell_atoms ps pair.port before.0) is_form.old rules is_form.tight before.2)

  fewer_at_end : (pair : Pair) → length (unwrap_or (get table pair) []) ≤ length (unwrap_or (get s.table pair) [])
  fewer_at_end pair = by (get table pair) refl
    where
      by : (o : Option (List Rule)) → get table pair ≡ o → length (unwrap_or (get table pair) []) ≤ length (unwrap_or (get s.table pair) [])
      by None none = let nothing_left : length (unwrap_or (get table pair) []) ≡ 0 = ap (λ o. length (unwrap_or o [])) none in omega (arith, nothing_left)
      by (Some rules) at =
          let is_form = rebuilt pair rules at in
          let now : length (unwrap_or (get table pair) []) ≡ length rules = ap (λ o. length (unwrap_or o [])) at in
          let then : length (unwrap_or (get s.table pair) []) ≡ length is_form.old = ap (λ o. length (unwrap_or o [])) is_form.had in
          let less : length rules ≤ length is_form.old = is_form.tight.fewer in
          omega (arith, now, then, less)

  pub tightened : IsTightened s (ended s swap end)
  tightened = record { tight = λ pair rules at. (rebuilt pair rules at).tight.tight; fewer = fewer_at_end }

  pub table_at_end : IsTableAtEnd s table
  table_at_end = record { pairs = pairs_at_end; right = right_at_end; tightened = record { tight = tightened.tight; fewer = tightened.fewer } }

  -- ---- the tests by which a reply lists pairs

  -- of a live pair the rules at the end are others where those built for it are
  same_others : (pair : Pair) → is_live_pair s1 pair ≡ true → has_other_rules s (ended s swap end) pair ≡ other pair
  same_others pair now =
      let built = has_built pair (pair_was_live s steady.steady pair now) in
      (λ i. not (same_option (pointwise same_rule) (built.had i) (live_at_end pair now built i))) ∙ others_tell (get swap.built pair) built.old ∙ sym (λ i. are_others (built.had i) (get swap.built pair))

  pub same_comes : (pair : Pair) → comes s (ended s swap end) (has_other_rules s (ended s swap end)) pair ≡ comes s s1 other pair
  same_comes pair = by (is_live_pair s1 pair) refl
    where
      by : (b : Bool) → is_live_pair s1 pair ≡ b → comes s (ended s swap end) (has_other_rules s (ended s swap end)) pair ≡ comes s s1 other pair
      by true now = ap (λ b. is_live_pair s1 pair && (not (is_live_pair s pair) || b)) (same_others pair now)
      by false gone = ap (λ b. b && (not (is_live_pair s pair) || has_other_rules s (ended s swap end) pair)) gone ∙ sym (ap (λ b. b && (not (is_live_pair s pair) || other pair)) gone)

  pub same_goes : (pair : Pair) → goes s (ended s swap end) (has_other_rules s (ended s swap end)) pair ≡ goes s s1 other pair
  same_goes pair = by (is_live_pair s1 pair) refl
    where
      by : (b : Bool) → is_live_pair s1 pair ≡ b → goes s (ended s swap end) (has_other_rules s (ended s swap end)) pair ≡ goes s s1 other pair
      by true now = ap (λ b. is_live_pair s pair && (not (is_live_pair s1 pair) || b)) (same_others pair now)
      by false gone =
          ap (λ b. is_live_pair s pair && (not b || has_other_rules s (ended s swap end) pair)) gone
          ∙ sym (ap (λ b. is_live_pair s pair && (not b || other pair)) gone)

  -- ---- what is swapped

  -- a pair that gets other rules is live
  pub changed_live : (pair : Pair) → Member pair end.changed → is_live_pair s1 pair ≡ true
  changed_live pair m = (and_parts (is_live_pair s1 pair) (is_new s other pair) (is.changed.each pair m)).0

  -- and has no fewer than were built for it
  pub swapped : (pair : Pair) → Member pair end.changed → IsFewer left swap.built pair
  swapped pair m =
      let now : is_live_pair s1 pair ≡ true = changed_live pair m in
      let built = has_built pair (pair_was_live s steady.steady pair now) in
      let live : is_live_pair s pair ≡ true = pair_was_live s steady.steady pair now in
      let others : other pair ≡ true = second (is_live_pair s pair) (other pair) live (and_parts (is_live_pair s1 pair) (is_new s other pair) (is.changed.each pair m)).1 in
      let made = other_made (get swap.built pair) built.old (sym (λ i. are_others (built.had i) (get swap.built pair)) ∙ others) in
      record { old = built.old; had = left_at pair now ∙ built.had; rules = made.0; is = made.1; fewer = subst (λ o. length (unwrap_or o built.old) ≤ length built.old) made.1 built.tight.fewer }
