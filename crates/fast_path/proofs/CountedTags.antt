-- How often a tag stands among ascending ones: as many as are at most the tag, less those that are below it.
use Rattle.std.proofs.Common.{◌≡◌, ℕ, zero, suc, ◌+◌, ◌-◌, ◌≤◌, Bool, true, false, cond, nat_eq, List, [], ◌∷◌, length, count_by, ap, refl, arith}
use Rattle.std.proofs.lemmas.Bool.Decides.{nat_tests}
use Rattle.std.proofs.lemmas.List.Sums.{sum_by-cons}
use Rattle.std.proofs.Math.Dec.{leb, ltb}
use Rattle.std.specs.List.Sorted.{IsPartitionPoint}
use Rattle.events.specs.Tags.{same_tag}
use Rattle.net_types.specs.declared.address.Tag.{Tag}

-- before the point all pass, and from it on none
pub count_point : {X : Type 0} (p : X → Bool) (xs : List X) (i : ℕ) → i ≤ length xs → IsPartitionPoint (λ y. p y ≡ true) (λ y. p y ≡ false) xs i → count_by p xs ≡ i
count_point p [] i within point = omega arith
count_point p (x ∷ xs) zero within point =
    let step = sum_by-cons (λ y. cond (p y) 1 0) x xs in
    let fail : ℕ = 0 in
    let here : cond (p x) 1 fail ≡ fail = ap (λ b. cond b 1 fail) (point.1 0 x (omega arith) (omega arith)) in
    let later = count_point p xs 0 (omega arith) (λ k d low high. absurd (omega arith), λ k d low high. point.1 (suc k) d (omega arith) (omega arith)) in
    omega (arith, step, here, later)
count_point p (x ∷ xs) (suc i) within point =
    let step = sum_by-cons (λ y. cond (p y) 1 0) x xs in
    let pass : ℕ = 1 in
    let here : cond (p x) pass 0 ≡ pass = ap (λ b. cond b pass 0) (point.0 0 x (omega arith) (omega arith)) in
    let later = count_point p xs i (omega arith) (λ k d low high. point.0 (suc k) d (omega arith) (omega arith), λ k d low high. point.1 (suc k) d (omega arith) (omega arith)) in
    omega (arith, step, here, later)

one_more : (t u : ℕ) → cond (leb u t) 1 0 ≡ cond (ltb u t) 1 0 + cond (nat_eq t u) 1 0
one_more t u = grind (arith, nat_tests)

-- at most the tag: below it, or the tag itself
pub counts_split : (t : Tag) (ts : List Tag) → count_by (λ (u : Tag). leb u.0 t.0) ts ≡ count_by (λ (u : Tag). ltb u.0 t.0) ts + count_by (same_tag t) ts
counts_split t [] = refl
counts_split t (u ∷ ts) =
    let all = sum_by-cons (λ (x : Tag). cond (leb x.0 t.0) 1 0) u ts in
    let below = sum_by-cons (λ (x : Tag). cond (ltb x.0 t.0) 1 0) u ts in
    let same = sum_by-cons (λ (x : Tag). cond (same_tag t x) 1 0) u ts in
    let one = one_more t.0 u.0 in
    let later = counts_split t ts in
    omega (arith, all, below, same, one, later)

-- so it is the difference of two points
pub count_is : (t : Tag) (ts : List Tag) (i j : ℕ) → i ≤ length ts → j ≤ length ts
    → IsPartitionPoint (λ (u : Tag). ltb u.0 t.0 ≡ true) (λ (u : Tag). ltb u.0 t.0 ≡ false) ts i → IsPartitionPoint (λ (u : Tag). leb u.0 t.0 ≡ true) (λ (u : Tag). leb u.0 t.0 ≡ false) ts j
    → (i ≤ j) × (j - i ≡ count_by (same_tag t) ts)
count_is t ts i j low high below through =
    let a = count_point (λ (u : Tag). ltb u.0 t.0) ts i low below in
    let b = count_point (λ (u : Tag). leb u.0 t.0) ts j high through in
    let split = counts_split t ts in
    (omega (arith, a, b, split), omega (arith, a, b, split))
