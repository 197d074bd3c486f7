-- Marked runs while places are taken and given back.
use Rattle.std.proofs.Common.{◌≡◌, ℕ, zero, suc, ◌+◌, ◌*◌, ◌/◌, ◌<◌, ◌≤◌, Bool, true, false, List, [], length, get_or, set, sym, ap, subst, ◌∙◌, refl, arith, max, ⊎_elim, replicate, length-set, get_or-set_same, get_or-set_other}
use Rattle.std.proofs.lemmas.Bool.{cases_lt, cases_eq}
use Rattle.std.proofs.lemmas.List.{length-replicate}
use Rattle.next_hop_pool.specs.Runs.{AreMarked, IsHeld}
use Rattle.next_hop_pool.proofs.FreeLemmas.{kept_new}

never_both : (b : Bool) → b ≡ false → b ≡ true → ⊥
never_both true f t = cc
never_both false f t = cc

unmarked : (n k : ℕ) → get_or (replicate n false) k false ≡ false
unmarked zero k = refl
unmarked (suc n) zero = refl
unmarked (suc n) (suc k) = unmarked n k

pub none_marked : (taken : List Bool) (runs : ℕ) → length taken ≤ 256 * runs → AreMarked taken (replicate runs false)
none_marked taken runs enough =
    let size = length-replicate runs false in
    record { enough = omega (arith, size, enough); passed = λ k m. absurd (never_both _ (unmarked runs (k / 256)) m) }

-- the same places, once they are lent
pub lent_marked : (taken full taken' full' : List Bool) → taken' ≡ taken → full' ≡ full → AreMarked taken full → AreMarked taken' full'
lent_marked taken full taken' full' t f marked = subst (λ bs. AreMarked bs full') (sym t) (subst (AreMarked taken) (sym f) marked)

pub taken_marked : (taken full : List Bool) (at : ℕ) → at < length taken → AreMarked taken full → AreMarked (set taken at true) full
taken_marked taken full at within marked =
    let size = length-set taken at true in
    record {
      enough = omega (arith, size, marked.enough);
      passed = λ k m. ⊎_elim (λ same. ap (λ i. get_or (set taken at true) i true) same ∙ get_or-set_same taken at true true within)
          (λ other. get_or-set_other taken at k true true other ∙ marked.passed k m) (cases_eq k at);
    }

pub given_marked : (taken full : List Bool) (at : ℕ) → at < length taken → AreMarked taken full → AreMarked (set taken at false) (set full (at / 256) false)
given_marked taken full at within marked =
    let size = length-set taken at false in
    let runs = length-set full (at / 256) false in
    let run : at / 256 < length full = omega (arith, marked.enough) in
    record {
      enough = omega (arith, size, runs, marked.enough);
      passed = λ k m. ⊎_elim
          (λ same. absurd (never_both _ (ap (λ r. get_or (set full (at / 256) false) r false) same ∙ get_or-set_same full (at / 256) false false run) m))
          (λ other. get_or-set_other taken at k false true (λ same. other (ap (λ i. i / 256) same)) ∙ marked.passed k (sym (get_or-set_other full (at / 256) (k / 256) false false other) ∙ m))
          (cases_eq (k / 256) (at / 256));
    }

pub run_marked : (taken full : List Bool) (run : ℕ) → ((k : ℕ) → run * 256 ≤ k → k < run * 256 + 256 → get_or taken k true ≡ true) → AreMarked taken full → AreMarked taken (set full run true)
run_marked taken full run all marked =
    let runs = length-set full run true in
    record {
      enough = omega (arith, runs, marked.enough);
      passed = λ k m. ⊎_elim (λ same. all k (omega (arith, same)) (omega (arith, same)))
          (λ other. marked.passed k (sym (get_or-set_other full run (k / 256) true false other) ∙ m)) (cases_eq (k / 256) run);
    }

pub run_taken : (taken slice : List Bool) (least from at run : ℕ) → slice ≡ taken → from ≡ max least (run * 256) → ((k : ℕ) → k < least → get_or taken k true ≡ true) → ((k : ℕ) → from ≤ k → k < at → get_or slice k true ≡ true) → run * 256 + 256 ≤ at
    → (k : ℕ) → run * 256 ≤ k → k < run * 256 + 256 → get_or taken k true ≡ true
run_taken taken slice least from at run same is full skipped past k low high =
    ⊎_elim (λ lt. full k lt) (λ ge. ap (λ bs. get_or bs k true) (sym same) ∙ skipped k (omega (arith, is, low, ge)) (omega (arith, past, high))) (cases_lt k least)

pub held_new : (base size : ℕ) → size ≤ 65536 → base + size < 4294967296 → IsHeld base (replicate size false) (replicate (size / 256 + 1) false) 0 size
held_new base size few within =
    let same = length-replicate size false in
    record { kept = kept_new base size few within; marked = none_marked (replicate size false) (size / 256 + 1) (omega (arith, same)) }

pub held_none : (places full : List Bool) → places ≡ [] → full ≡ [] → IsHeld 0 places full 0 0
held_none places full no_places no_runs =
    subst (λ bs. IsHeld 0 bs full 0 0) (sym no_places) (subst (λ bs. IsHeld 0 [] bs 0 0) (sym no_runs)
    (record { kept = kept_new 0 0 (omega arith) (omega arith); marked = none_marked [] 0 (omega arith) }))
