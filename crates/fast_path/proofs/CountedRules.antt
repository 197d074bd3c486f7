-- How many rules a table has without those of some pairs, and how many by pair.
use Rattle.std.proofs.Common.{◌≡◌, ℕ, ◌+◌, Bool, true, false, cond, List, [], ◌∷◌, length, map, sum_by, sym, ap, subst, ◌∙◌, refl, arith, inl, inr}
use Rattle.std.specs.Prelude.{Option, Some, None, unwrap_or}
use Rattle.std.specs.FinMap.{empty, get, get-empty, get-insert, get-remove, insert, remove, same_map}
use Rattle.std.specs.Ordering.{eq_by_cmp}
use Rattle.std.proofs.lemmas.Bool.{false_from_ne_true}
use Rattle.std.proofs.lemmas.List.Sums.{sum_by-cons}
use Rattle.block_build.specs.Installed.{count_at, rule_count}
use Rattle.events.specs.After.{without_pairs}
use Rattle.exchange_laws.proofs.Lists.{TableOf}
use Rattle.exchange_laws.specs.Listed.{is_pair_before}
use Rattle.fast_path.proofs.CommittedRules.{rules_put}
use Rattle.net_types.proofs.OrderLemmas.{pairs_total}
use Rattle.net_types.proofs.RisingLemmas.{before_itself}
use Rattle.net_types.proofs.TieLemmas.{pair_cmp-IsAntisymmetric, pair_tie, ties_itself}
use Rattle.net_types.proofs.ValueLemmas.{no_entries}
use Rattle.net_types.specs.Keys.{pair_cmp}
use Rattle.net_types.specs.Sets.{IsRising, Member}
use Rattle.net_types.specs.declared.rule.Pair.{Pair}
use Rattle.net_types.specs.declared.rule.Rule.{Rule}

-- the rules of a pair that is taken out are fewer
pub rules_taken : (m : TableOf) (k : Pair) → rule_count (remove m k) + count_at m k ≡ rule_count m
rules_taken m k = by (get m k) refl
  where
    gone : (o : Option (List Rule)) → get m k ≡ o → (q : Pair) (b : Bool) → eq_by_cmp pair_cmp q k ≡ b → cond b o (cond b None (get m q)) ≡ get m q
    gone o is q true ties = sym is ∙ ap (get m) (sym (pair_tie q k ties))
    gone o is q false ties = refl

    by : (o : Option (List Rule)) → get m k ≡ o → rule_count (remove m k) + count_at m k ≡ rule_count m
    by None none =
        let same : remove m k ≡ m = same_map pairs_total pair_cmp-IsAntisymmetric (remove m k) m (λ q. get-remove pairs_total m k q ∙ one q (eq_by_cmp pair_cmp q k) refl) in
        let count : rule_count (remove m k) ≡ rule_count m = ap rule_count same in
        let at : count_at m k ≡ 0 = ap (λ o. length (unwrap_or o [])) none in
        omega arith
      where
        one : (q : Pair) (b : Bool) → eq_by_cmp pair_cmp q k ≡ b → cond b None (get m q) ≡ get m q
        one q true ties = sym none ∙ ap (get m) (sym (pair_tie q k ties))
        one q false ties = refl
    by (Some v) some =
        let same : insert (remove m k) k v ≡ m = same_map pairs_total pair_cmp-IsAntisymmetric (insert (remove m k) k v) m (λ q.
        get-insert pairs_total (remove m k) k v q ∙ ap (cond (eq_by_cmp pair_cmp q k) (Some v)) (get-remove pairs_total m k q) ∙ gone (Some v) some q (eq_by_cmp pair_cmp q k) refl) in
        let put = rules_put (remove m k) k v in
        let count : rule_count (insert (remove m k) k v) ≡ rule_count m = ap rule_count same in
        let none : count_at (remove m k) k ≡ 0 = ap (λ o. length (unwrap_or o [])) (get-remove pairs_total m k k ∙ ap (λ b. cond b None (get m k)) (ties_itself pairs_total k)) in
        let at : count_at m k ≡ length v = ap (λ o. length (unwrap_or o [])) some in
        omega arith

other_count : (m : TableOf) (k q : Pair) → is_pair_before k q ≡ true → count_at (remove m k) q ≡ count_at m q
other_count m k q below =
    ap (λ o. length (unwrap_or o [])) (get-remove pairs_total m k q ∙ ap (λ b. cond b None (get m q)) (false_from_ne_true (eq_by_cmp pair_cmp q k) (λ ties.
    before_itself pair_cmp pairs_total k (subst (λ x. is_pair_before k x ≡ true) (pair_tie q k ties) below))))

sums_alike : (f g : Pair → ℕ) (ks : List Pair) → ((k : Pair) → Member k ks → f k ≡ g k) → sum_by f ks ≡ sum_by g ks
sums_alike f g [] same = refl
sums_alike f g (k ∷ ks) same =
    sum_by-cons f k ks ∙ ap (λ n. n + sum_by f ks) (same k (inl refl)) ∙ ap (λ n. g k + n) (sums_alike f g ks (λ q m. same q (inr m))) ∙ sym (sum_by-cons g k ks)

-- so it is of several pairs, each once
pub rules_without : (ks : List Pair) (m : TableOf) → IsRising is_pair_before ks → rule_count (without_pairs m ks) + sum_by (count_at m) ks ≡ rule_count m
rules_without [] m rises = let none : sum_by (count_at m) [] ≡ 0 = refl in omega arith
rules_without (k ∷ ks) m rises =
    let later = rules_without ks (remove m k) rises.1 in
    let same : sum_by (count_at (remove m k)) ks ≡ sum_by (count_at m) ks = sums_alike (count_at (remove m k)) (count_at m) ks (λ q stands. other_count m k q (rises.0 q stands)) in
    let one = rules_taken m k in
    let sum : sum_by (count_at m) (k ∷ ks) ≡ count_at m k + sum_by (count_at m) ks = sum_by-cons (count_at m) k ks in
    omega arith

-- a table without pairs has no rules
pub rules_none : (m : TableOf) → ((q : Pair) → get m q ≡ None) → rule_count m ≡ 0
rules_none m none =
    ap rule_count (same_map pairs_total pair_cmp-IsAntisymmetric m empty (λ q. none q ∙ sym (get-empty pair_cmp q)))
    ∙ ap (λ es. sum_by (λ (rules : List Rule). length rules) (map (λ (e : Pair × List Rule). e.1) es)) (no_entries Pair (List Rule) pair_cmp)
