-- A job ends with right and tight rules, no more for a pair than it had.
use Rattle.events.proofs.Drained.{some_cond}
use Rattle.std.proofs.Common.{◌≡◌, ℕ, ◌+◌, ◌≤◌, ◌<◌, ◌^◌, Bool, true, false, nat_eq, nat_lt, not, List, [], ◌∷◌, filter, length, sum_by, ap, sym, subst, ◌∙◌, refl, arith}
use Rattle.std.specs.Prelude.{Some, MatchOption, is_some, unwrap_or}
use Rattle.std.specs.Cmp.Lexicographic.{pointwise}
use Rattle.std.specs.FinMap.{contains_key-keys, get, keys, values}
use Rattle.std.proofs.lemmas.Bool.{eqb-true, le-ltb, not-false}
use Rattle.std.proofs.lemmas.List.Filters.{sum_by-filter_both}
use Rattle.std.proofs.lemmas.List.Sums.{sum_by-cons}
use Rattle.events.specs.After.{merged, next, next_by, put_flows, without_pairs}
use Rattle.events.specs.Fits.{IsAnswer, IsFinished, IsWorked, dropped, has_other_rules}
use Rattle.events.specs.Sound.{IsSound, rule_count, same_rule}
use Rattle.events.specs.State.{State}
use Rattle.events.specs.Tags.{is_live, is_live_pair}
use Rattle.events.specs.declared.Event.TheVariants.{Work}
use Rattle.events.specs.declared.Phase.TheVariants.{Start}
use Rattle.events.specs.declared.Reply.{Reply}
use Rattle.exchange_laws.proofs.Built.{right_rules_are_some}
use Rattle.exchange_laws.proofs.Flows.{replies_build_tables}
use Rattle.exchange_laws.proofs.FullTables.{accepted_lines_fit}
use Rattle.exchange_laws.proofs.Lists.{TableOf, key_Member}
use Rattle.exchange_laws.proofs.LivePairs.{live_at}
use Rattle.exchange_laws.proofs.PassedSteps.{kept_passed}
use Rattle.exchange_laws.specs.Replies.{IsBuiltOn}
use Rattle.exchange_laws.specs.Steady.{IsSteady}
use Rattle.job_laws.proofs.JobUnits.{works_later}
use Rattle.job_laws.proofs.MergedStates.{kept_for, kept_is, kept_live, live_kept, pair_was_live, tag_there, tag_was_live}
use Rattle.block_build.proofs.SameRules.{rules_test}
use Rattle.job_laws.specs.Ending.{IsTableAtEnd, JobsEnd}
use Rattle.job_laws.specs.Jobs.{without_job}
use Rattle.net_types.proofs.EqualLemmas.{option_test}
use Rattle.net_types.proofs.FindLemmas.{find-IsFound}
use Rattle.net_types.proofs.OrderLemmas.{pairs_total}
use Rattle.net_types.proofs.OrderedLemmas.{member_any}
use Rattle.net_types.proofs.RisingLemmas.{Member-filter, before, before_itself, before_trans, filter-IsRising, filter-Member, keys-IsRising}
use Rattle.net_types.proofs.SetLemmas.{rising_unique}
use Rattle.net_types.specs.Attributes.{same_option}
use Rattle.net_types.specs.Keys.{pair_cmp}
use Rattle.net_types.specs.Sets.{Member}
use Rattle.net_types.specs.declared.route.PortInfo.{PortInfo}
use Rattle.net_types.specs.declared.rule.Pair.{Pair}
use Rattle.net_types.specs.declared.rule.Rule.{Rule}
use Rattle.reply_laws.proofs.BuiltLines.{counted}
use Rattle.run_laws.proofs.Answering.{ends_leave}
use Rattle.std.proofs.lemmas.Option.{same_Some}
use Rattle.net_types.proofs.TieLemmas.{pair_tie}

-- ---- rules that are the same

-- a pair whose rules aren't others has the same ones
same_rules : (s s1 : State) (pair : Pair) → has_other_rules s s1 pair ≡ false → get s.table pair ≡ get s1.table pair
same_rules s s1 pair same = (option_test (pointwise same_rule) rules_test (get s.table pair) (get s1.table pair)).0 (not-false (same_option (pointwise same_rule) (get s.table pair) (get s1.table pair)) same)

-- ---- how many rules a table has

-- the rules of a pair in a table
abbrev rules_of : TableOf → Pair → ℕ
rules_of t pair = length (unwrap_or (get t pair) [])

-- what is less at each member is less together
sums_below : (f g : Pair → ℕ) (xs : List Pair) → ((x : Pair) → f x ≤ g x) → sum_by f xs ≤ sum_by g xs
sums_below f g [] each = omega arith
sums_below f g (x ∷ xs) each =
    let here : f x ≤ g x = each x in
    let later : sum_by f xs ≤ sum_by g xs = sums_below f g xs each in
    let first : sum_by f (x ∷ xs) ≡ f x + sum_by f xs = sum_by-cons f x xs in
    let second : sum_by g (x ∷ xs) ≡ g x + sum_by g xs = sum_by-cons g x xs in
    omega arith

-- a key has something
pub there : (t : TableOf) (pair : Pair) → Member pair (keys t) → is_some (get t pair) ≡ true
there t pair m = contains_key-keys t pair ∙ member_any pair_cmp pairs_total pair_tie pair (keys t) m

-- a table whose pairs are among those of another, each with no more rules, has no more rules
fewer_rules : (old new : TableOf) → ((pair : Pair) → is_some (get new pair) ≡ true → is_some (get old pair) ≡ true) → ((pair : Pair) → rules_of new pair ≤ rules_of old pair)
    → sum_by (λ (rules : List Rule). length rules) (values new) ≤ sum_by (λ (rules : List Rule). length rules) (values old)
fewer_rules old new among each =
    let stands : Pair → Bool = λ pair. is_some (get new pair) in
    let those : keys new ≡ filter stands (keys old) =
    rising_unique (before pair_cmp) (before_itself pair_cmp pairs_total) (before_trans pair_cmp pairs_total) (keys new) (filter stands (keys old)) (keys-IsRising pair_cmp new)
    (filter-IsRising (before pair_cmp) stands (keys old) (keys-IsRising pair_cmp old)) (record {
      onto = λ pair m. let is : stands pair ≡ true = there new pair m in Member-filter stands (keys old) pair (key_Member pair_cmp pairs_total pair_tie old pair (among pair is)) is;
      back = λ pair m. key_Member pair_cmp pairs_total pair_tie new pair (filter-Member stands (keys old) pair m).passes;
    }) in
    let less : sum_by (rules_of new) (keys new) ≤ sum_by (rules_of old) (keys new) = sums_below (rules_of new) (rules_of old) (keys new) each in
    let same : sum_by (rules_of old) (keys new) ≡ sum_by (rules_of old) (filter stands (keys old)) = ap (sum_by (rules_of old)) those in
    let both : sum_by (rules_of old) (filter stands (keys old)) + sum_by (rules_of old) (filter (λ x. not (stands x)) (keys old)) ≡ sum_by (rules_of old) (keys old) =
    sum_by-filter_both stands (λ x. not (stands x)) (λ x. refl) (rules_of old) (keys old) in
    let first : sum_by (λ (rules : List Rule). length rules) (values new) ≡ sum_by (rules_of new) (keys new) = counted new in
    let second : sum_by (λ (rules : List Rule). length rules) (values old) ≡ sum_by (rules_of old) (keys old) = counted old in
    omega (arith, less, same, both, first, second)

-- ---- the state

-- whatever the table, a sound state at the end of a job is steady
pub ended_steady : (s : State) (table : TableOf) → IsSteady (without_job s) → (s.phase ≡ Start → ⊥) → IsSound (record (merged s) { table = table }) → IsSteady (record (merged s) { table = table })
ended_steady s table steady later sound = record {
  sound = sound;
  pooled = λ t live. steady.pooled t (tag_was_live s steady t live);
  kept = kept_live s steady;
  live = live_kept s steady;
  owners = steady.owners;
  told = steady.told;
  hops = steady.hops;
  routed = steady.routed;
  apart = steady.apart;
  numbered = steady.numbered;
  rules = steady.rules;
  resolved = steady.resolved;
  rising = steady.rising;
  few = steady.few;
  policies = kept_passed (without_job s) (record (merged s) { table = table }) refl steady.policies;
  whole = λ t sig is part m. steady.whole t sig (some_cond (is_live (merged s) t) (get s.kept t) sig (sym (kept_is s steady t) ∙ is)) part m;
  idle = refl;
  sized = record { start = λ e. absurd (cc); small = steady.sized.small; low = λ e. steady.sized.low later; high = steady.sized.high; room = steady.sized.room };
  new = λ not. absurd (not refl);
}

module _ (s : State) (steady : IsSteady (without_job s)) (table : TableOf) (is : IsTableAtEnd s table) where
  abbrev s1 : State
  s1 = record (merged s) { table = table }

  was_there : (pair : Pair) → is_some (get table pair) ≡ true → is_some (get s.table pair) ≡ true
  was_there pair has = steady.sound.pairs pair ∙ pair_was_live s steady pair (sym (is.pairs pair) ∙ has)

  ended_sound : IsSound s1
  ended_sound =
      let ps = steady.sound.right.0 in
      let are = steady.sound.right.1 in record {
        pairs = is.pairs;
        right = (ps, record { names = are.names; outbound = are.outbound; inbound = are.inbound }, is.right ps (record { names = are.names; outbound = are.outbound; inbound = are.inbound }));
        few =
            let less : rule_count s1 ≤ rule_count s = fewer_rules s.table table was_there is.tightened.fewer in
            let few : rule_count s ≤ s.capacity = steady.sound.few in
            omega (arith, less, few);
        tagged = tag_there s steady;
        kept = kept_for s steady;
      }

  -- the number of a live pair's port is small
  small_port : (pair : Pair) → is_live_pair (merged s) pair ≡ true → pair.port.0 < 2 ^ 16
  small_port pair live =
      let at = live_at (merged s) pair live in
      let q : PortInfo = at.0 in
      let found = find-IsFound (λ (x : PortInfo). nat_eq x.number.0 pair.port.0) s.routing.ports q at.1.port in
      let high : q.number.0 ≤ 65279 = (steady.numbered q found.stands).1 in
      let same : q.number.0 ≡ pair.port.0 = eqb-true q.number.0 pair.port.0 found.passes in
      omega (arith, high, same)

  built_on : IsBuiltOn s s1 (has_other_rules s s1)
  built_on = record {
    stays = λ pair old new same was now. same_Some old new (sym was ∙ same_rules s s1 pair same ∙ now);
    some = λ pair new has.
        let right = ended_sound.right.2 pair [] has in
        right_rules_are_some ended_sound.right.0 right.0 pair.port [] (small_port pair (sym (is.pairs pair) ∙ ap is_some has)) right.2 refl;
  }

  -- ---- the reply

  module _ (units owed : ℕ) (reply : Reply) (runs : s.owed ≡ Some owed) (all : nat_lt units owed ≡ false) (finished : IsFinished s s1 reply) where
    table_is : put_flows (without_pairs s.table reply.drops) reply.adds ≡ table
    table_is =
        ap (λ ds. put_flows (without_pairs s.table ds) reply.adds) finished.drops
        ∙ ap (put_flows (without_pairs s.table (dropped s s1 (has_other_rules s s1)))) finished.adds
        ∙ replies_build_tables s s1 (has_other_rules s s1) built_on

    next_is : next s (Work units) reply ≡ s1
    next_is = ap (λ h. next_by h s (Work units) reply) finished.head ∙ (λ i. record (ends_leave s units owed runs all i) { table = table_is i })

    answered : IsAnswer s (Work units) reply (next s (Work units) reply)
    answered =
        subst (λ o. MatchOption o ⊥ (λ n. IsWorked (nat_lt units n) s (next s (Work units) reply) units n reply)) (sym runs)
        (subst (λ b. IsWorked b s (next s (Work units) reply) units owed reply) (sym all) (subst (λ x. IsFinished s x reply) (sym next_is) finished))

pub jobs_end : JobsEnd
jobs_end s units owed table reply steady none runs all is finished =
    let more : nat_lt units owed ≡ false = le-ltb units owed all in
    let leaves : next s (Work units) reply ≡ record (merged s) { table = table } = next_is s steady.steady table is units owed reply runs more finished in
    let sound : IsSound (record (merged s) { table = table }) = ended_sound s steady.steady table is in (
      leaves,
      accepted_lines_fit s (Work units) reply none (record { answer = answered s steady.steady table is units owed reply runs more finished; sound = subst IsSound (sym leaves) sound }),
      ended_steady s table steady.steady (works_later s units none) sound,
    )
