-- How many rules there are once the rules of pairs that had none are put in.
use Rattle.std.proofs.Common.{◌≡◌, ◌+◌, List, [], ◌∷◌, cond, length, sum_by, ap, ◌∙◌, refl, arith, inl, inr}
use Rattle.std.specs.Prelude.{Some, None, unwrap_or}
use Rattle.std.specs.FinMap.{entries, entries-insert, entries_sorted, get, get-entries, get-insert, insert}
use Rattle.std.specs.FinMap.Entries.{find}
use Rattle.std.specs.Ordering.{eq_by_cmp}
use Rattle.std.proofs.lemmas.Bool.{false_from_ne_true}
use Rattle.std.proofs.lemmas.List.Sums.{sum_by-cons}
use Rattle.block_build.specs.Installed.{count_at, rule_count}
use Rattle.exchange_laws.proofs.Lists.{TableOf}
use Rattle.match_switch.proofs.CountLemmas.{count-put, sum-values}
use Rattle.net_types.proofs.OrderLemmas.{pairs_total}
use Rattle.net_types.specs.Keys.{pair_cmp}
use Rattle.net_types.specs.Sets.{Member}
use Rattle.net_types.specs.declared.rule.Pair.{Pair}
use Rattle.net_types.specs.declared.rule.Rule.{Rule}
use Rattle.fast_path.proofs.CommittedMaps.{AreApart}
use Rattle.fast_path.specs.Committing.{Block, block_count, with_blocks}
use Rattle.net_types.proofs.TestLemmas.{shown}
use Rattle.net_types.proofs.TieLemmas.{pair_tie}

pub rules_put : (m : TableOf) (pair : Pair) (rules : List Rule) → rule_count (insert m pair rules) + count_at m pair ≡ rule_count m + length rules
rules_put m pair rules =
    let now = sum-values (λ (xs : List Rule). length xs) (entries (insert m pair rules)) ∙ ap (λ es. sum_by (λ (e : Block). length e.1) es) (entries-insert pairs_total m pair rules) in
    let was = sum-values (λ (xs : List Rule). length xs) (entries m) in
    let put = count-put pair_cmp pairs_total pair rules (entries m) (shown _ (entries_sorted m)) in
    let at : count_at m pair ≡ length (unwrap_or (find pair_cmp pair (entries m)) []) = ap (λ o. length (unwrap_or o [])) (get-entries m pair) in
    omega (arith, now, was, put, at)

-- they are those that there were, and those of the blocks
pub rules_with : (bs : List Block) (m : TableOf) → AreApart bs → ((b : Block) → Member b bs → get m b.0 ≡ None) → rule_count (with_blocks m bs) ≡ rule_count m + block_count bs
rules_with [] m apart none = omega arith
rules_with (b ∷ bs) m apart none =
    let rest = rules_with bs (insert m b.0 b.1) apart.1 (λ d k.
    get-insert pairs_total m b.0 b.1 d.0
    ∙ ap (λ c. cond c (Some b.1) (get m d.0)) (false_from_ne_true (eq_by_cmp pair_cmp d.0 b.0) (λ ties. apart.0 d k (pair_tie d.0 b.0 ties)))
    ∙ none d (inr k)) in
    let put = rules_put m b.0 b.1 in
    let at : count_at m b.0 ≡ 0 = ap (λ o. length (unwrap_or o [])) (none b (inl refl)) in
    let sum = sum_by-cons (λ (x : Block). length x.1) b bs in
    omega (arith, rest, put, at, sum)
