-- The rules of pairs that were built one after the other.
use Rattle.std.proofs.Common.{◌≡◌, ℕ, ◌+◌, ◌<◌, List, [], ◌∷◌, ◌++◌, length, map, take, drop, sym, ap, subst, ◌∙◌, arith, inl, inr, zero, suc, refl}
use Rattle.std.specs.Prelude.{slice_index_or}
use Rattle.std.proofs.lemmas.List.{take-append-drop}
use Rattle.std.proofs.lemmas.List.Sums.{sum_by-cons}
use Rattle.net_types.proofs.SetLemmas.{Member-append_cases, map-append}
use Rattle.block_build.specs.declared.block.BuildFault.{BuildFault}
use Rattle.block_build.specs.declared.block.BuildFault.TheVariants.{Wide, Memory}
use Rattle.fast_path.specs.Building.{AreRightFor, IsBlockFor, IsFaultBeside, IsFaultFor, IsOver, Site}
use Rattle.fast_path.specs.Committing.{Block, block_count}
use Rattle.fast_path.specs.Plans.{pair_of}
use Rattle.fast_path.proofs.Loops.{rest_is}
use Rattle.net_types.specs.declared.rule.Pair.{Pair}
use Rattle.net_types.specs.declared.rule.Rule.{Rule}

take_one : {A : Type 0} (xs : List A) (n : ℕ) (d : A) → n < length xs → take (n + 1) xs ≡ take n xs ++ slice_index_or xs n d ∷ []
take_one [] n d within = absurd (omega arith)
take_one (x ∷ xs) zero d within = refl
take_one (x ∷ xs) (suc n) d within = let next : suc n + 1 ≡ suc (n + 1) = omega arith in ap (λ k. take k (x ∷ xs)) next ∙ ap (λ ys. x ∷ ys) (take_one xs n d (omega arith))

-- ---- the blocks of pairs

module _ (site : Site) (pairs : List Pair) (at : ℕ) (pair : Pair) (within : at < length pairs) (is : slice_index_or pairs at pair ≡ pair) where
  pub pairs_before : (blocks : List Block) → map pair_of blocks ≡ take at pairs → map pair_of blocks ++ pair ∷ drop (at + 1) pairs ≡ pairs
  pairs_before blocks before =
      ap (λ qs. qs ++ pair ∷ drop (at + 1) pairs) before ∙ ap (λ q. take at pairs ++ q ∷ drop (at + 1) pairs) (sym is) ∙ ap (λ qs. take at pairs ++ qs) (sym (rest_is pairs at pair within)) ∙ take-append-drop at pairs

  pub pairs_more : (blocks : List Block) (rules : List Rule) → map pair_of blocks ≡ take at pairs → map pair_of (blocks ++ (pair, rules) ∷ []) ≡ take (at + 1) pairs
  pairs_more blocks rules before =
      map-append pair_of blocks ((pair, rules) ∷ []) ∙ ap (λ qs. qs ++ pair ∷ []) before ∙ ap (λ q. take at pairs ++ q ∷ []) (sym is) ∙ sym (take_one pairs at pair within)

  pub fault_for : (blocks : List Block) (built room : ℕ) (e : BuildFault) → map pair_of blocks ≡ take at pairs → AreRightFor site blocks → built ≡ block_count blocks → IsFaultBeside site pair built room e → IsFaultFor site pairs room e
  fault_for blocks built room (Wide rules) before right counted over = record {
    blocks = blocks;
    pair = pair;
    rest = drop (at + 1) pairs;
    pairs_are = pairs_before blocks before;
    right = right;
    last = subst (λ n. IsOver site pair n room rules) counted over;
  }
  fault_for blocks built room Memory before right counted over = tt

pub more_right : (site : Site) (blocks : List Block) (pair : Pair) (rules : List Rule) → AreRightFor site blocks → IsBlockFor site pair rules → AreRightFor site (blocks ++ (pair, rules) ∷ [])
more_right site blocks pair rules right is b m = elim (Member-append_cases blocks ((pair, rules) ∷ []) b m) [
  | inl before ↦ right b before
  | inr last ↦ elim last [
    | inl same ↦ subst (λ (x : Block). IsBlockFor site x.0 x.1) (sym same) is
    | inr none ↦ absurd none
  ]
]

pub more_rules : (blocks : List Block) (pair : Pair) (rules : List Rule) → block_count (blocks ++ (pair, rules) ∷ []) ≡ block_count blocks + length rules
more_rules [] pair rules = sum_by-cons (λ (b : Block). length b.1) (pair, rules) [] ∙ (let e : length rules + 0 ≡ 0 + length rules = omega arith in e)
more_rules (b ∷ blocks) pair rules =
    sum_by-cons (λ (x : Block). length x.1) b (blocks ++ (pair, rules) ∷ []) ∙ ap (λ n. length b.1 + n) (more_rules blocks pair rules)
    ∙ (let one = sum_by-cons (λ (x : Block). length x.1) b blocks in let e : length b.1 + (block_count blocks + length rules) ≡ block_count (b ∷ blocks) + length rules = omega (arith, one) in e)

-- an element within is the same by any default
pub index_same : {A : Type 0} (xs : List A) (n : ℕ) (d : A) → n < length xs → slice_index_or xs n (slice_index_or xs n d) ≡ slice_index_or xs n d
index_same [] n d within = absurd (omega arith)
index_same (x ∷ xs) zero d within = refl
index_same (x ∷ xs) (suc n) d within = index_same xs n d (omega arith)
