-- The pairs that don't go and get other rules are those whose rules come, and with those that go those whose rules go.
use Rattle.std.proofs.Common.{◌≡◌, Bool, true, false, ◌||◌, not, List, ◌++◌, ap, sym, ◌∙◌, refl, inl, inr}
use Rattle.std.specs.Prelude.{Option, Some, None, is_some}
use Rattle.std.specs.FinMap.{get, keys}
use Rattle.std.proofs.lemmas.Bool.{and_from, and_parts, false_from_ne_true, or_left, or_right, not-true}
use Rattle.events.specs.After.{merged}
use Rattle.events.specs.State.{State}
use Rattle.events.specs.Tags.{is_live_pair}
use Rattle.exchange_laws.proofs.Lists.{clash, key_Member}
use Rattle.exchange_laws.specs.Listed.{AreLiveOnly, AreThose, comes, goes}
use Rattle.exchange_laws.specs.Rules.{is_new}
use Rattle.exchange_laws.specs.Steady.{IsSteady}
use Rattle.fast_path.specs.Pairs.{dropped_pairs, is_among}
use Rattle.job_end.specs.Ends.{is_other}
use Rattle.job_end.specs.Rebuilt.{are_others, changed_pairs, has_others, is_changed}
use Rattle.job_laws.proofs.MergedStates.{pair_was_live}
use Rattle.job_laws.specs.Jobs.{without_job}
use Rattle.net_types.proofs.OrderLemmas.{pairs_total}
use Rattle.net_types.proofs.OrderedLemmas.{any_member, member_any, ordered_rises, ordered_same}
use Rattle.net_types.proofs.RisingLemmas.{Member-filter, before, filter-IsRising, filter-Member, keys-IsRising}
use Rattle.net_types.proofs.SetLemmas.{Member-append_cases, Member-append_left, Member-append_right}
use Rattle.net_types.specs.Keys.{pair_cmp}
use Rattle.net_types.specs.Sets.{Member}
use Rattle.net_types.specs.declared.rule.Pair.{Pair}
use Rattle.net_types.specs.declared.rule.Rule.{Rule}
use Rattle.recompile.specs.Underway.{BuiltPairs}
use Rattle.net_types.proofs.TieLemmas.{pair_tie}

-- what is so by the second of two tests, where the first is met
pub second : (a b : Bool) → a ≡ true → (not a || b) ≡ true → b ≡ true
second true b is e = e
second false b is e = absurd (cc)

module _ (s : State) (steady : IsSteady (without_job s)) (built : BuiltPairs) (gone : List Pair) (are : AreLiveOnly s (merged s) gone) where
  abbrev s1 : State
  s1 = merged s

  abbrev other : Pair → Bool
  other pair = is_other s built pair

  -- ---- the pairs that stay and get other rules

  abbrev test : Pair → Bool
  test pair = is_changed s.table built gone pair

  -- a live pair that doesn't go stays live
  stays : (pair : Pair) → is_live_pair s pair ≡ true → is_among gone pair ≡ false → is_live_pair s1 pair ≡ true
  stays pair live none = by (is_live_pair s1 pair) refl
    where
      by : (b : Bool) → is_live_pair s1 pair ≡ b → is_live_pair s1 pair ≡ true
      by true now = now
      by false now = absurd (clash (member_any pair_cmp pairs_total pair_tie pair gone (are.all pair live now)) none)

  -- a pair that gets other rules has some, and other ones were built for it
  both_have : (old made : Option (List Rule)) → are_others old made ≡ true → (is_some old ≡ true) × (is_some made ≡ true)
  both_have None made others = absurd (cc)
  both_have (Some old) None others = absurd (cc)
  both_have (Some old) (Some rules) others = (refl, refl)

  changed_each : (pair : Pair) → Member pair (changed_pairs s.table built gone) → comes s s1 other pair ≡ true
  changed_each pair m =
      let left = filter-Member test (keys built) pair m in
      let parts = and_parts (not (is_among gone pair)) (has_others s.table built pair) left.passes in
      let live : is_live_pair s pair ≡ true = sym (steady.sound.pairs pair) ∙ (both_have (get s.table pair) (get built pair) parts.1).0 in
      and_from (is_live_pair s1 pair) (is_new s other pair) (stays pair live (not-true (is_among gone pair) parts.0)) (or_right (not (is_live_pair s pair)) (other pair) parts.1)

  changed_all : (pair : Pair) → comes s s1 other pair ≡ true → Member pair (changed_pairs s.table built gone)
  changed_all pair e =
      let parts = and_parts (is_live_pair s1 pair) (is_new s other pair) e in
      let live : is_live_pair s pair ≡ true = pair_was_live s steady pair parts.0 in
      let none : is_among gone pair ≡ false = false_from_ne_true (is_among gone pair) (λ any. clash parts.0 (are.each pair (any_member pair_cmp pairs_total pair_tie pair gone any)).1) in
      let others : other pair ≡ true = second (is_live_pair s pair) (other pair) live parts.1 in
      Member-filter test (keys built) pair (key_Member pair_cmp pairs_total pair_tie built pair (both_have (get s.table pair) (get built pair) others).1)
      (and_from (not (is_among gone pair)) (has_others s.table built pair) (ap not none) others)

  pub changed_are : AreThose (comes s s1 other) (changed_pairs s.table built gone)
  changed_are = record {
    rising = filter-IsRising (before pair_cmp) test (keys built) (keys-IsRising pair_cmp built);
    each = changed_each;
    all = changed_all;
  }

  -- ---- the pairs whose rules go

  module _ (changed : List Pair) (those : AreThose (comes s s1 other) changed) where
    drops_each : (pair : Pair) → Member pair (dropped_pairs gone changed) → goes s s1 other pair ≡ true
    drops_each pair m = elim (Member-append_cases gone changed pair ((ordered_same pair_cmp pairs_total pair_tie (gone ++ changed)).onto pair m)) [
      | inl k ↦
          let is = are.each pair k in
          and_from (is_live_pair s pair) (not (is_live_pair s1 pair) || other pair) is.0 (or_left (not (is_live_pair s1 pair)) (other pair) (ap not is.1))
      | inr k ↦
          let parts = and_parts (is_live_pair s1 pair) (is_new s other pair) (those.each pair k) in
          let live : is_live_pair s pair ≡ true = pair_was_live s steady pair parts.0 in
          and_from (is_live_pair s pair) (not (is_live_pair s1 pair) || other pair) live (or_right (not (is_live_pair s1 pair)) (other pair) (second (is_live_pair s pair) (other pair) live parts.1))
    ]

    drops_all : (pair : Pair) → goes s s1 other pair ≡ true → Member pair (dropped_pairs gone changed)
    drops_all pair e =
        let parts = and_parts (is_live_pair s pair) (not (is_live_pair s1 pair) || other pair) e in
        (ordered_same pair_cmp pairs_total pair_tie (gone ++ changed)).back pair (by (is_live_pair s1 pair) refl parts.0 parts.1)
      where
        by : (b : Bool) → is_live_pair s1 pair ≡ b → is_live_pair s pair ≡ true → (not (is_live_pair s1 pair) || other pair) ≡ true → Member pair (gone ++ changed)
        by true now live more =
            Member-append_right gone changed pair (those.all pair (and_from (is_live_pair s1 pair) (is_new s other pair) now
            (or_right (not (is_live_pair s pair)) (other pair) (second (is_live_pair s1 pair) (other pair) now more))))
        by false now live more = Member-append_left gone changed pair (are.all pair live now)

    pub drops_are : AreThose (goes s s1 other) (dropped_pairs gone changed)
    drops_are = record { rising = ordered_rises pair_cmp pairs_total pair_tie (gone ++ changed); each = drops_each; all = drops_all }
