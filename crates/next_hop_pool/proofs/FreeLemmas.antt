-- The free tags of a list of places.
use Rattle.std.proofs.Common.{◌≡◌, ℕ, zero, suc, ◌+◌, ◌<◌, ◌≤◌, Bool, true, false, cond, ◌||◌, not, List, [], ◌∷◌, length, map, get_or, set, sym, ap, subst, ◌∙◌, refl, arith, max, min, ⊎_elim, replicate, length-set, get_or-set_same, get_or-set_other, ◌-◌}
use Rattle.std.proofs.lemmas.List.{length-replicate}
use Rattle.std.proofs.lemmas.Bool.{cases_lt, cases_eq, or_left}
use Rattle.std.specs.Prelude.{Some, None, find, filter, slice_get}
use Rattle.net_types.specs.Routes.{numbers}
use Rattle.net_types.specs.declared.address.Tag.{Tag}
use Rattle.next_hop_pool.specs.Free.{is_taken_in, free_in, tag, IsKept}

-- the free ones of the tags from n upwards, ascending
abbrev pub free_from : ℕ → List Bool → List Tag
free_from n [] = []
free_from n (b ∷ bs) = cond b (free_from (n + 1) bs) (tag n ∷ free_from (n + 1) bs)

kept_or_not : (b c : Bool) (t : Tag) (ts us : List Tag) → b ≡ c → ts ≡ us → cond (not b) (t ∷ ts) ts ≡ cond c us (t ∷ us)
kept_or_not b true t ts us same rest = ap (λ x. cond (not x) (t ∷ ts) ts) same ∙ rest
kept_or_not b false t ts us same rest = ap (λ x. cond (not x) (t ∷ ts) ts) same ∙ ap (λ xs. t ∷ xs) rest

free_at : (all : List Bool) (i n : ℕ) (bs : List Bool) → n ≡ i + 1 → ((k : ℕ) → get_or all (i + k) true ≡ get_or bs k true) → filter (λ t. not (is_taken_in all t)) (map tag (numbers n (length bs))) ≡ free_from n bs
free_at all i n [] next same = refl
free_at all i n (b ∷ bs) next same =
    let here : n - 1 ≡ i + 0 = omega arith in
    kept_or_not (is_taken_in all (tag n)) b (tag n) _ _ (ap (λ k. get_or all k true) here ∙ same 0)
    (free_at all (i + 1) (n + 1) bs (omega arith) (λ k. let later : i + 1 + k ≡ i + suc k = omega arith in ap (λ j. get_or all j true) later ∙ same (suc k)))

-- the free tags, by the places from the first on
pub free_by_place : (bs : List Bool) → free_in bs ≡ free_from 1 bs
free_by_place bs = free_at bs 0 1 bs refl (λ k. let same : 0 + k ≡ k = omega arith in ap (λ j. get_or bs j true) same)

-- the first of a list
pub find_first : {A : Type 0} (xs : List A) → find (λ _. true) xs ≡ slice_get xs 0
find_first [] = refl
find_first (x ∷ xs) = refl

pub or_right : (a b : Bool) → b ≡ false → (a || not b) ≡ true
or_right true b e = refl
or_right false true e = cc
or_right false false e = refl

cond_find : (b c : Bool) (p : Tag → Bool) (n : ℕ) (ts : List Tag) → (b || not (p (tag n))) ≡ true → find p (cond b ts (tag n ∷ ts)) ≡ find p ts
cond_find true c p n ts h = refl
cond_find false c p n ts h = at (p (tag n)) h
  where
    at : (b : Bool) → not b ≡ true → cond b (Some (tag n)) (find p ts) ≡ find p ts
    at true h = cc
    at false h = refl

-- the first place that is not taken and passes
pub find_free : (p : Tag → Bool) (n : ℕ) (bs : List Bool) (i : ℕ) → i < length bs → ((k : ℕ) → k < i → (get_or bs k true || not (p (tag (n + k)))) ≡ true) → get_or bs i true ≡ false → p (tag (n + i)) ≡ true → find p (free_from n bs) ≡ Some (tag (n + i))
find_free p n [] i within skipped free passes = absurd (omega arith)
find_free p n (b ∷ bs) zero within skipped free passes =
    let same : n + 0 ≡ n = omega arith in
    ap (λ c. find p (cond c (free_from (n + 1) bs) (tag n ∷ free_from (n + 1) bs))) free
    ∙ ap (λ c. cond c (Some (tag n)) (find p (free_from (n + 1) bs))) (ap (λ k. p (tag k)) (sym same) ∙ passes) ∙ ap (λ k. Some (tag k)) (sym same)
find_free p n (b ∷ bs) (suc i) within skipped free passes =
    let same : n + 1 + i ≡ n + suc i = omega arith in
    cond_find b b p n (free_from (n + 1) bs) (ap (λ k. b || not (p (tag k))) (omega arith) ∙ skipped 0 (omega arith))
    ∙ find_free p (n + 1) bs i (omega arith) (λ k below. ap (λ m. get_or bs k true || not (p (tag m))) (omega arith) ∙ skipped (suc k) (omega arith)) free (ap (λ k. p (tag k)) same ∙ passes)
    ∙ ap (λ k. Some (tag k)) same

pub find_no_free : (p : Tag → Bool) (n : ℕ) (bs : List Bool) → ((k : ℕ) → k < length bs → (get_or bs k true || not (p (tag (n + k)))) ≡ true) → find p (free_from n bs) ≡ None
find_no_free p n [] skipped = refl
find_no_free p n (b ∷ bs) skipped =
    cond_find b b p n (free_from (n + 1) bs) (ap (λ k. b || not (p (tag k))) (omega arith) ∙ skipped 0 (omega arith))
    ∙ find_no_free p (n + 1) bs (λ k below. ap (λ m. get_or bs k true || not (p (tag m))) (omega arith) ∙ skipped (suc k) (omega arith))

length_cond : (b : Bool) (t : Tag) (ts : List Tag) → length (cond b ts (t ∷ ts)) ≡ cond b 0 1 + length ts
length_cond true t ts = omega arith
length_cond false t ts = omega arith

-- one more is taken
pub count_taken : (n : ℕ) (bs : List Bool) (i : ℕ) → i < length bs → get_or bs i true ≡ false → length (free_from n (set bs i true)) + 1 ≡ length (free_from n bs)
count_taken n [] i within free = absurd (omega arith)
count_taken n (b ∷ bs) zero within free = subst (λ c. length (free_from (n + 1) bs) + 1 ≡ length (cond c (free_from (n + 1) bs) (tag n ∷ free_from (n + 1) bs))) (sym free) (omega arith)
count_taken n (b ∷ bs) (suc i) within free =
    let rest = count_taken (n + 1) bs i (omega arith) free in
    omega (arith, rest, length_cond b (tag n) (free_from (n + 1) (set bs i true)), length_cond b (tag n) (free_from (n + 1) bs))

-- one is given back
pub count_given : (n : ℕ) (bs : List Bool) (i : ℕ) → i < length bs → get_or bs i true ≡ true → length (free_from n (set bs i false)) ≡ length (free_from n bs) + 1
count_given n [] i within taken = absurd (omega arith)
count_given n (b ∷ bs) zero within taken = subst (λ c. length (tag n ∷ free_from (n + 1) bs) ≡ length (cond c (free_from (n + 1) bs) (tag n ∷ free_from (n + 1) bs)) + 1) (sym taken) (omega arith)
count_given n (b ∷ bs) (suc i) within taken =
    let rest = count_given (n + 1) bs i (omega arith) taken in
    omega (arith, rest, length_cond b (tag n) (free_from (n + 1) (set bs i false)), length_cond b (tag n) (free_from (n + 1) bs))

pub count_le : (n : ℕ) (bs : List Bool) → length (free_from n bs) ≤ length bs
count_le n [] = omega arith
count_le n (b ∷ bs) = let rest = count_le (n + 1) bs in elim b as (λ c. length (cond c (free_from (n + 1) bs) (tag n ∷ free_from (n + 1) bs)) ≤ suc (length bs)) [ true ↦ omega arith | false ↦ omega arith ]

-- the first place behind those that are known to be taken, and behind a number
pub place_free : (taken : List Bool) (least number from at : ℕ) → ((k : ℕ) → k < least → get_or taken k true ≡ true) → from ≡ max least number → ((k : ℕ) → from ≤ k → k < at → get_or taken k true ≡ true) → (p : Tag → Bool) → ((t : Tag) → 0 < t.0 → t.0 ≤ number → p t ≡ false) → (k : ℕ) → k < at → (get_or taken k true || not (p (tag (1 + k)))) ≡ true
place_free taken least number from at full is skipped p low k below =
    ⊎_elim (λ lt. or_left _ _ (full k lt))
    (λ ge. ⊎_elim (λ lt. or_right _ _ (low (tag (1 + k)) (omega arith) (omega arith))) (λ far. or_left _ _ (skipped k (omega arith) below)) (cases_lt k number))
    (cases_lt k least)

pub taken_before : (bs : List Bool) (least at : ℕ) → ((k : ℕ) → k < least → get_or bs k true ≡ true) → ((k : ℕ) → least ≤ k → k < at → get_or bs k true ≡ true) → (k : ℕ) → k < at → get_or bs k true ≡ true
taken_before bs least at full skipped k below = ⊎_elim (λ lt. full k lt) (λ ge. skipped k ge below) (cases_lt k least)

pub kept_taken : (base least free : ℕ) (bs : List Bool) (at : ℕ) → IsKept base bs least free → at < length bs → ((k : ℕ) → least ≤ k → k < at → get_or bs k true ≡ true) → get_or bs at true ≡ false → (1 ≤ free) × IsKept base (set bs at true) (at + 1) (free - 1)
kept_taken base least free bs at kept within skipped is_free =
    let count = count_taken 1 bs at within is_free in
    let before = ap length (free_by_place bs) in
    let after = ap length (free_by_place (set bs at true)) in
    let size = length-set bs at true in (
      omega (arith, count, kept.count, before),
      record {
        small = omega (arith, size, kept.small);
        within = omega (arith, size, kept.within);
        full = λ k below. ⊎_elim (λ same. ap (λ i. get_or (set bs at true) i true) same ∙ get_or-set_same bs at true true within)
            (λ other. get_or-set_other bs at k true true other ∙ taken_before bs least at kept.full skipped k (omega arith)) (cases_eq k at);
        count = omega (arith, count, kept.count, before, after);
      },
    )

-- a tag that is taken out of turn leaves the mark where it is
pub kept_chosen : (base least free : ℕ) (bs : List Bool) (at : ℕ) → IsKept base bs least free → at < length bs → get_or bs at true ≡ false → (1 ≤ free) × IsKept base (set bs at true) least (free - 1)
kept_chosen base least free bs at kept within is_free =
    let count = count_taken 1 bs at within is_free in
    let before = ap length (free_by_place bs) in
    let after = ap length (free_by_place (set bs at true)) in
    let size = length-set bs at true in (
      omega (arith, count, kept.count, before),
      record {
        small = omega (arith, size, kept.small);
        within = omega (arith, size, kept.within);
        full = λ k below. ⊎_elim (λ same. ap (λ i. get_or (set bs at true) i true) same ∙ get_or-set_same bs at true true within)
            (λ other. get_or-set_other bs at k true true other ∙ kept.full k below) (cases_eq k at);
        count = omega (arith, count, kept.count, before, after);
      },
    )

pub kept_given : (base least free : ℕ) (bs : List Bool) (at : ℕ) → IsKept base bs least free → at < length bs → get_or bs at true ≡ true → IsKept base (set bs at false) (min least at) (free + 1) × (free + 1 ≤ 65536)
kept_given base least free bs at kept within taken =
    let count = count_given 1 bs at within taken in
    let size = length-set bs at false in
    let before = ap length (free_by_place bs) in
    let after = ap length (free_by_place (set bs at false)) in
    let few = count_le 1 (set bs at false) in (
      record {
        small = omega (arith, size, kept.small);
        within = omega (arith, size, kept.within);
        full = λ k below. get_or-set_other bs at k false true (λ same. omega arith) ∙ kept.full k (omega arith);
        count = omega (arith, count, kept.count, before, after);
      },
      omega (arith, count, kept.count, kept.small, size, few, before),
    )

count_new : (n size : ℕ) → length (free_from n (replicate size false)) ≡ size
count_new n zero = refl
count_new n (suc size) = ap suc (count_new (n + 1) size)

pub kept_new : (base size : ℕ) → size ≤ 65536 → base + size < 4294967296 → IsKept base (replicate size false) 0 size
kept_new base size few within =
    let same = length-replicate size false in
    record { small = omega (arith, same); within = omega (arith, same); full = λ k below. absurd (omega arith); count = sym (ap length (free_by_place (replicate size false)) ∙ count_new 1 size) }
