-- What the words of sets say of their places.
use Rattle.std.proofs.Common.{◌≡◌, ◌≢◌, ℕ, zero, suc, ◌+◌, ◌-◌, ◌*◌, ◌/◌, ◌%◌, ◌^◌, ◌<◌, ◌≤◌, Bool, true, false, ◌&&◌, ◌||◌, not, List, [], ◌∷◌, ◌++◌, length, length-append, get_or, set, drop, eqb, ltb, min, max, refl, sym, ◌∙◌, ap, ◌⊎◌, inl, inr, arith, eq-eqb, lt-ltb, le-ltb, w64}
use Rattle.std.proofs.lemmas.Bool.{cases_lt, cases_eq, ne_eqb}
use Rattle.std.proofs.lemmas.List.{get_or_past, get_or_append_left, get_or-append_right, get_or-drop, get_or_push, get_or-set_same, get_or-set_other}
use Rattle.std.proofs.lemmas.Nat.{and_le_l, and_le_r, or_disjoint}
use Rattle.std.proofs.lemmas.Nat.Bits.{bit_at_and, bit_at_or, bit_at_xor, bit_at-zero, bit_at_ones, bit_at_ones_above, bit_at_set_same, bit_at_set_other, bit_at-lt, shr_and_one, same_from_bits}
use Rattle.std.specs.Prelude.{bit_and, bit_or, bit_xor, OnErr, Result, Ok, Err}
use Rattle.std.specs.Int.{bit_at}
use Rattle.place_sets.specs.Places.{has_place}

-- ---- one bit

test_and : (a b : ℕ) → a < 2 → b < 2 → eqb (min a b) 1 ≡ (eqb a 1 && eqb b 1)
test_and zero zero p q = refl
test_and zero (suc zero) p q = refl
test_and (suc zero) zero p q = refl
test_and (suc zero) (suc zero) p q = refl
test_and (suc (suc a)) b p q = absurd (omega arith)
test_and a (suc (suc b)) p q = absurd (omega arith)

test_or : (a b : ℕ) → a < 2 → b < 2 → eqb (max a b) 1 ≡ (eqb a 1 || eqb b 1)
test_or zero zero p q = refl
test_or zero (suc zero) p q = refl
test_or (suc zero) zero p q = refl
test_or (suc zero) (suc zero) p q = refl
test_or (suc (suc a)) b p q = absurd (omega arith)
test_or a (suc (suc b)) p q = absurd (omega arith)

test_without : (a b : ℕ) → a < 2 → b < 2 → eqb ((a + min a b) % 2) 1 ≡ (eqb a 1 && not (eqb b 1))
test_without zero zero p q = refl
test_without zero (suc zero) p q = refl
test_without (suc zero) zero p q = refl
test_without (suc zero) (suc zero) p q = refl
test_without (suc (suc a)) b p q = absurd (omega arith)
test_without a (suc (suc b)) p q = absurd (omega arith)

-- ---- words that are wanting

pub and_past : (a b : ℕ) → (a ≡ 0) ⊎ (b ≡ 0) → bit_and a b ≡ 0
and_past a b (inl none) = omega (arith, and_le_l a b)
and_past a b (inr none) = omega (arith, and_le_r a b)

pub or_past : (a b : ℕ) → b ≡ 0 → a ≡ bit_or a b
or_past a b none = omega (arith, or_disjoint a b (and_past a b (inr none)))

-- the word without the bits of the other
abbrev pub word_without : ℕ → ℕ → ℕ
word_without a b = bit_xor a (bit_and a b)

pub without_past : (a b : ℕ) → bit_and a b ≡ 0 → a ≡ word_without a b
without_past a b none = same_from_bits a (word_without a b) (λ i.
    let same : bit_at (bit_and a b) i ≡ 0 = ap (λ x. bit_at x i) none ∙ bit_at-zero i in
    omega (arith, bit_at_xor a (bit_and a b) i, bit_at-lt a i))

-- ---- lists of words

-- a list whose words below n are known, with the next one
pub pushed : (f : ℕ → ℕ) (words : List ℕ) (word n : ℕ) → length words ≡ n → word ≡ f n
    → ((j : ℕ) → j < n → get_or words j 0 ≡ f j) → (j : ℕ) → j < n + 1 → get_or (words ++ word ∷ []) j 0 ≡ f j
pushed f words word n long last front j below = elim (cases_lt j n) [
  | inl here ↦ let there : j < length words = omega arith in get_or_append_left words (word ∷ []) 0 j there ∙ front j here
  | inr past ↦ let at : j ≡ n = omega arith in
      let end : length words ≡ j = omega arith in
      get_or_push words word 0 j end ∙ last ∙ ap f (sym at)
]

-- a list whose words below n are known, with another's words from n on
pub extended : (f : ℕ → ℕ) (words other : List ℕ) (n : ℕ) → length words ≡ n
    → ((j : ℕ) → j < n → get_or words j 0 ≡ f j) → ((j : ℕ) → n ≤ j → get_or other j 0 ≡ f j)
    → (j : ℕ) → get_or (words ++ drop n other) j 0 ≡ f j
extended f words other n long front rest j = elim (cases_lt j n) [
  | inl here ↦ let there : j < length words = omega arith in get_or_append_left words (drop n other) 0 j there ∙ front j here
  | inr past ↦ let at : n + (j - n) ≡ j = omega arith in
      get_or-append_right words (drop n other) n j 0 long past ∙ get_or-drop n other (j - n) 0
      ∙ ap (λ x. get_or other x 0) at ∙ rest j past
]

-- a list whose words below its length are known, where there are no more
pub ended : (f : ℕ → ℕ) (words : List ℕ) (n : ℕ) → length words ≡ n
    → ((j : ℕ) → j < n → get_or words j 0 ≡ f j) → ((j : ℕ) → n ≤ j → f j ≡ 0)
    → (j : ℕ) → get_or words j 0 ≡ f j
ended f words n long front rest j = elim (cases_lt j n) [
  | inl here ↦ front j here
  | inr past ↦ let end : length words ≤ j = omega arith in get_or_past words j 0 end ∙ sym (rest j past)
]

-- from the end of the shorter list on, no word has a bit in common
pub none_in_both : (a b : List ℕ) (j : ℕ) → min (length a) (length b) ≤ j → bit_and (get_or a j 0) (get_or b j 0) ≡ 0
none_in_both a b j past = elim (cases_lt j (length a)) [
  | inl here ↦ let end : length b ≤ j = omega arith in and_past (get_or a j 0) (get_or b j 0) (inr (get_or_past b j 0 end))
  | inr end ↦ and_past (get_or a j 0) (get_or b j 0) (inl (get_or_past a j 0 end))
]

-- ---- sets

module _ (words a b : List ℕ) where
  pub has_both : ((j : ℕ) → get_or words j 0 ≡ bit_and (get_or a j 0) (get_or b j 0))
      → (k : ℕ) → has_place words k ≡ (has_place a k && has_place b k)
  unfolding has_place
  has_both each k =
      let x = get_or a (k / 64) 0 in
      let y = get_or b (k / 64) 0 in
      let i = k % 64 in
      ap (λ z. eqb (bit_at z i) 1) (each (k / 64)) ∙ ap (λ z. eqb z 1) (bit_at_and x y i)
      ∙ test_and (bit_at x i) (bit_at y i) (bit_at-lt x i) (bit_at-lt y i)

  pub has_either : ((j : ℕ) → get_or words j 0 ≡ bit_or (get_or a j 0) (get_or b j 0))
      → (k : ℕ) → has_place words k ≡ (has_place a k || has_place b k)
  unfolding has_place
  has_either each k =
      let x = get_or a (k / 64) 0 in
      let y = get_or b (k / 64) 0 in
      let i = k % 64 in
      ap (λ z. eqb (bit_at z i) 1) (each (k / 64)) ∙ ap (λ z. eqb z 1) (bit_at_or x y i)
      ∙ test_or (bit_at x i) (bit_at y i) (bit_at-lt x i) (bit_at-lt y i)

  pub has_without : ((j : ℕ) → get_or words j 0 ≡ word_without (get_or a j 0) (get_or b j 0))
      → (k : ℕ) → has_place words k ≡ (has_place a k && not (has_place b k))
  unfolding has_place
  has_without each k =
      let x = get_or a (k / 64) 0 in
      let y = get_or b (k / 64) 0 in
      let i = k % 64 in
      ap (λ z. eqb (bit_at z i) 1) (each (k / 64))
      ∙ ap (λ z. eqb z 1) (bit_at_xor x (bit_and x y) i ∙ ap (λ z. (bit_at x i + z) % 2) (bit_at_and x y i))
      ∙ test_without (bit_at x i) (bit_at y i) (bit_at-lt x i) (bit_at-lt y i)

-- sets with the same words have the same places
pub has_same : (a b : List ℕ) → ((j : ℕ) → get_or a j 0 ≡ get_or b j 0) → (k : ℕ) → has_place a k ≡ has_place b k
unfolding has_place
has_same a b each k = ap (λ z. eqb (bit_at z (k % 64)) 1) (each (k / 64))

-- a word that is 0 has no place
pub has_none : (words : List ℕ) (k : ℕ) → get_or words (k / 64) 0 ≡ 0 → has_place words k ≡ false
unfolding has_place
has_none words k none = ap (λ z. eqb (bit_at z (k % 64)) 1) none ∙ ap (λ z. eqb z 1) (bit_at-zero (k % 64))

-- the test that the code makes
pub has_shift : (words : List ℕ) (word k : ℕ) → get_or words (k / 64) 0 ≡ word
    → eqb (bit_and (word / 2 ^ (k % 64)) 1) 1 ≡ has_place words k
unfolding has_place
has_shift words word k is = ap (λ z. eqb z 1) (shr_and_one word (k % 64) ∙ ap (λ z. bit_at z (k % 64)) (sym is))

-- ---- the first places

pub first_places : (words : List ℕ) (n rest last : ℕ) → length words ≡ n → rest < 64 → last ≡ 2 ^ rest - 1
    → ((j : ℕ) → j < n → get_or words j 0 ≡ 2 ^ 64 - 1)
    → (k : ℕ) → has_place (words ++ last ∷ []) k ≡ ltb k (n * 64 + rest)
unfolding has_place
first_places words n rest last long small ends front k = elim (cases_lt (k / 64) n) [
  | inl here ↦
      let there : k / 64 < length words = omega arith in
      let is : get_or (words ++ last ∷ []) (k / 64) 0 ≡ 2 ^ 64 - 1 = get_or_append_left words (last ∷ []) 0 (k / 64) there ∙ front (k / 64) here in
      ap (λ z. eqb (bit_at z (k % 64)) 1) is ∙ ap (λ z. eqb z 1) (bit_at_ones 64 (k % 64) (omega arith)) ∙ sym (lt-ltb k (n * 64 + rest) (omega arith))
  | inr past ↦ elim (cases_eq (k / 64) n) [
    | inl at ↦
        let end : length words ≡ k / 64 = omega arith in
        let is : get_or (words ++ last ∷ []) (k / 64) 0 ≡ 2 ^ rest - 1 = get_or_push words last 0 (k / 64) end ∙ ends in
        elim (cases_lt (k % 64) rest) [
          | inl low ↦ ap (λ z. eqb (bit_at z (k % 64)) 1) is ∙ ap (λ z. eqb z 1) (bit_at_ones rest (k % 64) low) ∙ sym (lt-ltb k (n * 64 + rest) (omega arith))
          | inr high ↦ ap (λ z. eqb (bit_at z (k % 64)) 1) is ∙ ap (λ z. eqb z 1) (bit_at_ones_above rest (k % 64) high) ∙ sym (le-ltb k (n * 64 + rest) (omega arith))
        ]
    | inr other ↦
        let behind : length (words ++ last ∷ []) ≤ k / 64 = omega (arith, length-append words (last ∷ [])) in
        ap (λ z. eqb (bit_at z (k % 64)) 1) (get_or_past (words ++ last ∷ []) (k / 64) 0 behind) ∙ ap (λ z. eqb z 1) (bit_at-zero (k % 64)) ∙ sym (le-ltb k (n * 64 + rest) (omega arith))
  ]
]

-- ---- one place more

or_false : (b : Bool) → b ≡ (b || false)
or_false true = refl
or_false false = refl

or_true : (b : Bool) → true ≡ (b || true)
or_true true = refl
or_true false = refl

pub has_put : (words : List ℕ) (p : ℕ) → p / 64 < length words
    → (k : ℕ) → has_place (set words (p / 64) (bit_or (get_or words (p / 64) 0) (1 * 2 ^ (p % 64) % 2 ^ 64))) k ≡ (has_place words k || eqb k p)
unfolding has_place
has_put words p within k =
    let old : ℕ = get_or words (p / 64) 0 in
    let new : ℕ = bit_or old (1 * 2 ^ (p % 64) % 2 ^ 64) in
    let small : p % 64 < 64 = omega arith in
    let was : Bool = eqb (bit_at (get_or words (k / 64) 0) (k % 64)) 1 in
    elim (cases_eq k p) [
      | inl at ↦
          let word : get_or (set words (p / 64) new) (k / 64) 0 ≡ new = ap (λ z. get_or (set words (p / 64) new) (z / 64) 0) at ∙ get_or-set_same words (p / 64) new 0 within in
          let bit : bit_at new (k % 64) ≡ 1 = ap (λ z. bit_at new (z % 64)) at ∙ bit_at_set_same w64 old (p % 64) small in
          ap (λ z. eqb (bit_at z (k % 64)) 1) word ∙ ap (λ z. eqb z 1) bit ∙ or_true was ∙ ap (λ z. was || z) (sym (eq-eqb k p at))
      | inr apart ↦
          let same : bit_at (get_or (set words (p / 64) new) (k / 64) 0) (k % 64) ≡ bit_at (get_or words (k / 64) 0) (k % 64) =
          elim (cases_eq (k / 64) (p / 64)) [
            | inl at ↦
                let word : get_or (set words (p / 64) new) (k / 64) 0 ≡ new = ap (λ z. get_or (set words (p / 64) new) z 0) at ∙ get_or-set_same words (p / 64) new 0 within in
                let other : k % 64 ≢ p % 64 = λ e. apart (omega arith) in
                ap (λ z. bit_at z (k % 64)) word ∙ bit_at_set_other w64 old (p % 64) small (k % 64) other ∙ ap (λ z. bit_at (get_or words z 0) (k % 64)) (sym at)
            | inr other ↦ ap (λ z. bit_at z (k % 64)) (get_or-set_other words (p / 64) (k / 64) new 0 other)
          ] in
          ap (λ z. eqb z 1) same ∙ or_false was ∙ ap (λ z. was || z) (sym (ne_eqb k p apart))
    ]

-- a 0 behind the words makes no difference
pub push_zero : (words : List ℕ) (j : ℕ) → get_or (words ++ 0 ∷ []) j 0 ≡ get_or words j 0
push_zero words j = elim (cases_lt j (length words)) [
  | inl here ↦ get_or_append_left words (0 ∷ []) 0 j here
  | inr past ↦ elim (cases_eq j (length words)) [
    | inl at ↦ get_or_push words 0 0 j (sym at) ∙ sym (get_or_past words j 0 past)
    | inr other ↦
        let behind : length (words ++ 0 ∷ []) ≤ j = omega (arith, length-append words (0 ∷ [])) in
        get_or_past (words ++ 0 ∷ []) j 0 behind ∙ sym (get_or_past words j 0 past)
  ]
]

pub or_swap : (a b : Bool) → (a || b) ≡ (b || a)
or_swap true true = refl
or_swap true false = refl
or_swap false true = refl
or_swap false false = refl

pub on_err : {T E : Type 0} (r : Result T E) (P : Type 0) → P → OnErr r P
on_err (Ok x) P holds = tt
on_err (Err e) P holds = holds
