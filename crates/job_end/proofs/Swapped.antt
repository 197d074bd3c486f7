-- Steps of the loop that swaps the rules of pairs.
use Rattle.std.proofs.Common.{◌≡◌, ℕ, ◌+◌, ◌<◌, true, false, cond, List, [], ◌∷◌, length, drop, get_or, ap, sym, subst, ◌∙◌, refl, inl, inr}
use Rattle.std.specs.Prelude.{Some, None, unwrap_or}
use Rattle.std.specs.FinMap.{get, get-insert, get-remove, insert, remove}
use Rattle.std.specs.Ordering.{eq_by_cmp}
use Rattle.std.proofs.lemmas.Bool.{false_from_ne_true}
use Rattle.exchange_laws.proofs.Lists.{TableOf}
use Rattle.exchange_laws.specs.Listed.{is_pair_before}
use Rattle.fast_path.proofs.Loops.{rest_is}
use Rattle.fast_path.specs.Committing.{Block, with_blocks}
use Rattle.job_end.specs.Rebuilt.{IsFewer, blocks_of}
use Rattle.net_types.proofs.OrderLemmas.{pairs_total}
use Rattle.net_types.proofs.RisingLemmas.{before_itself}
use Rattle.net_types.specs.Keys.{pair_cmp}
use Rattle.net_types.specs.Sets.{IsRising, Member}
use Rattle.net_types.specs.declared.rule.Pair.{Pair}
use Rattle.recompile.specs.Underway.{BuiltPairs}
use Rattle.net_types.proofs.TieLemmas.{pair_tie}

-- what comes later is another pair
apart : (pair q : Pair) → is_pair_before pair q ≡ true → eq_by_cmp pair_cmp q pair ≡ false
apart pair q above = false_from_ne_true (eq_by_cmp pair_cmp q pair) (λ ties. before_itself pair_cmp pairs_total pair (subst (λ k. is_pair_before pair k ≡ true) (pair_tie q pair ties) above))

-- what was built for another pair stays, where a pair is taken out
others_stay : (b : BuiltPairs) (pair q : Pair) → eq_by_cmp pair_cmp q pair ≡ false → get (remove b pair) q ≡ get b q
others_stay b pair q other = get-remove pairs_total b pair q ∙ ap (λ c. cond c None (get b q)) other

-- the blocks of other pairs stay, where that of one is taken
blocks_stay : (b : BuiltPairs) (pair : Pair) (qs : List Pair) → ((q : Pair) → Member q qs → is_pair_before pair q ≡ true) → blocks_of (remove b pair) qs ≡ blocks_of b qs
blocks_stay b pair [] above = refl
blocks_stay b pair (q ∷ qs) above =
    let same : get (remove b pair) q ≡ get b q = others_stay b pair q (apart pair q (above q (inl refl))) in
    ap (λ o. (let x : Block = (q, unwrap_or o []) in x) ∷ blocks_of (remove b pair) qs) same
    ∙ ap (λ bs. (let x : Block = (q, unwrap_or (get b q) []) in x) ∷ bs) (blocks_stay b pair qs (λ r m. above r (inr m)))

-- what is left once the rules of the next pair are swapped
pub record IsNext (t t1 : TableOf) (b b1 : BuiltPairs) (now next : List Pair) : Type 0 where
  pub rest : with_blocks t1 (blocks_of b1 next) ≡ with_blocks t (blocks_of b now)
  pub rising : IsRising is_pair_before next
  pub fewer : (q : Pair) → Member q next → IsFewer t1 b1 q

module _ (t t1 : TableOf) (b b1 : BuiltPairs) (pair : Pair) (put : t1 ≡ insert t pair (unwrap_or (get b pair) [])) (taken : b1 ≡ remove b pair) where
  fewer_still : (q : Pair) → is_pair_before pair q ≡ true → IsFewer t b q → IsFewer t1 b1 q
  fewer_still q above is =
      let other = apart pair q above in record {
        old = is.old;
        had = ap (λ m. get m q) put ∙ get-insert pairs_total t pair (unwrap_or (get b pair) []) q ∙ ap (λ c. cond c (Some (unwrap_or (get b pair) [])) (get t q)) other ∙ is.had;
        rules = is.rules;
        is = ap (λ m. get m q) taken ∙ others_stay b pair q other ∙ is.is;
        fewer = is.fewer;
      }

  swap_front : (qs : List Pair) → IsRising is_pair_before (pair ∷ qs) → ((q : Pair) → Member q (pair ∷ qs) → IsFewer t b q) → IsNext t t1 b b1 (pair ∷ qs) qs
  swap_front qs rises fewer = record {
    rest = ap (λ m. with_blocks m (blocks_of b1 qs)) put
        ∙ ap (λ m. with_blocks (insert t pair (unwrap_or (get b pair) [])) (blocks_of m qs)) taken
        ∙ ap (with_blocks (insert t pair (unwrap_or (get b pair) []))) (blocks_stay b pair qs rises.0);
    rising = rises.1;
    fewer = λ q m. fewer_still q (rises.0 q m) (fewer q (inr m));
  }

  -- the next pair of a list
  module _ (pairs : List Pair) (i : ℕ) (within : i < length pairs) (item : pair ≡ get_or pairs i pair) where
    pub here : drop i pairs ≡ pair ∷ drop (i + 1) pairs
    here = rest_is pairs i pair within ∙ ap (λ x. x ∷ drop (i + 1) pairs) (sym item)

    pub swap_step : IsRising is_pair_before (drop i pairs) → ((q : Pair) → Member q (drop i pairs) → IsFewer t b q) → IsNext t t1 b b1 (drop i pairs) (drop (i + 1) pairs)
    swap_step rises fewer =
        subst (λ qs. IsNext t t1 b b1 qs (drop (i + 1) pairs)) (sym here)
        (swap_front (drop (i + 1) pairs) (subst (IsRising is_pair_before) here rises) (λ q m. fewer q (subst (Member q) (sym here) m)))

-- the next pair stands among those that are left
pub next_fewer : (t : TableOf) (b : BuiltPairs) (pair : Pair) (pairs : List Pair) (i : ℕ) → i < length pairs → pair ≡ get_or pairs i pair → ((q : Pair) → Member q (drop i pairs) → IsFewer t b q) → IsFewer t b pair
next_fewer t b pair pairs i within item fewer = fewer pair (subst (Member pair) (sym (rest_is pairs i pair within ∙ ap (λ x. x ∷ drop (i + 1) pairs) (sym item))) (inl refl))
