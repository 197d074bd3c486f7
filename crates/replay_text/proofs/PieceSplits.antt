-- The pieces of a text, cut at the first separator.
use Rattle.std.proofs.Common.{◌≡◌, ◌≢◌, ℕ, ◌+◌, ◌<◌, ◌≤◌, Bool, true, false, List, [], ◌∷◌, ◌++◌, length, get_or, take, drop, All, sym, refl, ap, ◌∙◌, arith, nat_eq, cond}
use Rattle.std.proofs.lemmas.Bool.{cond-true, cond-false, eq-eqb, ne_eqb}
use Rattle.std.proofs.lemmas.List.{take-append-drop, drop_more, get_or-take, length-take-le}
use Rattle.std.proofs.lemmas.List.Elements.{All-head, All-tail, All-from_get_or}
use Rattle.std.proofs.Common.{subst, Some, None}
use Rattle.std.specs.List.{position_from}
use Rattle.events.specs.Lines.{pieces, onto_first}

abbrev pub IsNot : ℕ → ℕ → Type 0
IsNot s x = x ≢ s

-- a text without a separator is one piece
pub pieces_none : (s : ℕ) (xs : List ℕ) → All (IsNot s) xs → pieces s xs ≡ xs ∷ []
pieces_none s [] none = refl
pieces_none s (x ∷ xs) none =
    cond-false _ _ _ (ne_eqb x s (All-head (IsNot s) x xs none)) ∙ ap (onto_first x) (pieces_none s xs (All-tail (IsNot s) x xs none))

-- what stands before a separator is the first piece
pieces_at : (s : ℕ) (xs ys : List ℕ) → All (IsNot s) xs → pieces s (xs ++ s ∷ ys) ≡ xs ∷ pieces s ys
pieces_at s [] ys none = cond-true _ _ _ (eq-eqb s s refl)
pieces_at s (x ∷ xs) ys none =
    cond-false _ _ _ (ne_eqb x s (All-head (IsNot s) x xs none)) ∙ ap (onto_first x) (pieces_at s xs ys (All-tail (IsNot s) x xs none))

split_around : (xs : List ℕ) (i s : ℕ) → i < length xs → get_or xs i 0 ≡ s → xs ≡ take i xs ++ s ∷ drop (i + 1) xs
split_around xs i s inside here = sym (take-append-drop i xs) ∙ ap (λ l. take i xs ++ l) (drop_more xs i 0 inside ∙ ap (λ b. b ∷ drop (i + 1) xs) here)

All-take_from_reads : (P : ℕ → Type 0) (xs : List ℕ) (i : ℕ) → i ≤ length xs → ((k : ℕ) → k < i → P (get_or xs k 0)) → All P (take i xs)
All-take_from_reads P xs i within reads =
    All-from_get_or P (take i xs) 0 (λ k inside. let below : k < i = omega (arith, length-take-le i xs within) in subst P (sym (get_or-take i xs k 0 below)) (reads k below))

-- the same, by the place of the first separator
pub pieces_at_first : (s : ℕ) (xs : List ℕ) (i : ℕ) → i < length xs → get_or xs i 0 ≡ s → ((k : ℕ) → k < i → get_or xs k 0 ≢ s) → pieces s xs ≡ take i xs ∷ pieces s (drop (i + 1) xs)
pieces_at_first s xs i inside here before =
    ap (pieces s) (split_around xs i s inside here) ∙ pieces_at s _ _ (All-take_from_reads (IsNot s) xs i (omega arith) before)

onto_first_some : (c : ℕ) (ls : List (List ℕ)) → 0 < length (onto_first c ls)
onto_first_some c [] = omega arith
onto_first_some c (l ∷ ls) = omega arith

one_or_more : (b : Bool) (c : ℕ) (ls : List (List ℕ)) → 0 < length (cond b ([] ∷ ls) (onto_first c ls))
one_or_more true c ls = omega arith
one_or_more false c ls = onto_first_some c ls

-- there is a piece
pub pieces_some : (s : ℕ) (xs : List ℕ) → 0 < length (pieces s xs)
pieces_some s [] = omega arith
pieces_some s (x ∷ xs) = one_or_more (nat_eq x s) x (pieces s xs)

-- a text without a separator has no first one
pub place_none : (s n : ℕ) (xs : List ℕ) → All (IsNot s) xs → position_from (λ c. nat_eq c s) n xs ≡ None
place_none s n [] none = refl
place_none s n (x ∷ xs) none = cond-false _ _ _ (ne_eqb x s (All-head (IsNot s) x xs none)) ∙ place_none s (n + 1) xs (All-tail (IsNot s) x xs none)

-- the first separator stands behind what has none
place_at : (s n : ℕ) (xs ys : List ℕ) → All (IsNot s) xs → position_from (λ c. nat_eq c s) n (xs ++ s ∷ ys) ≡ Some (n + length xs)
place_at s n [] ys none = let same : n ≡ n + 0 = omega arith in cond-true _ _ _ (eq-eqb s s refl) ∙ ap Some same
place_at s n (x ∷ xs) ys none =
    let same : n + 1 + length xs ≡ n + length (x ∷ xs) = omega arith in
    cond-false _ _ _ (ne_eqb x s (All-head (IsNot s) x xs none)) ∙ place_at s (n + 1) xs ys (All-tail (IsNot s) x xs none) ∙ ap Some same

-- the same, by its place
pub place_of_first : (s : ℕ) (xs : List ℕ) (i : ℕ) → i < length xs → get_or xs i 0 ≡ s → ((k : ℕ) → k < i → get_or xs k 0 ≢ s)
    → position_from (λ c. nat_eq c s) 0 xs ≡ Some (length (take i xs))
place_of_first s xs i inside here before =
    let same : 0 + length (take i xs) ≡ length (take i xs) = omega arith in
    ap (position_from (λ c. nat_eq c s) 0) (split_around xs i s inside here)
    ∙ place_at s 0 (take i xs) (drop (i + 1) xs) (All-take_from_reads (IsNot s) xs i (omega arith) before) ∙ ap Some same
