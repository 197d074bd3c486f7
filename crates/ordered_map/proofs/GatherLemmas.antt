-- Entries that are put last until there are so many.
use Rattle.std.proofs.Common.{◌≡◌, ◌≤◌, ℕ, suc, zero, length, List, [], ◌∷◌, ◌++◌, ap, sym, ◌∙◌, refl, take}
use Rattle.std.proofs.lemmas.List.{append_assoc, take_all, take_at, take-append-drop}
use Rattle.std.specs.Prelude.{drop}

module _ {A : Type 0} where
  -- what was left out stays out
  take_both : (n : ℕ) (xs bs : List A) → take n (take n xs ++ bs) ≡ take n (xs ++ bs)
  take_both zero xs bs = refl
  take_both (suc n) [] bs = refl
  take_both (suc n) (a ∷ xs) bs = ap (λ xs. a ∷ xs) (take_both n xs bs)

  all_taken : (n : ℕ) (xs : List A) → (length (take n xs) ≡ n → ⊥) → take n xs ≡ xs
  all_taken zero xs fewer = absurd (fewer refl)
  all_taken (suc n) [] fewer = refl
  all_taken (suc n) (a ∷ xs) fewer = ap (λ xs. a ∷ xs) (all_taken n xs (λ same. fewer (ap suc same)))

  -- the entries on the left of a node, its own and those on its right, one after the other
  pub gathered : (n : ℕ) (given first upto beside all l : List A) (e : A) (m r : List A) → first ≡ take n (given ++ l) → (length first ≡ n → ⊥) → upto ≡ first ++ e ∷ [] → beside ≡ take n (upto ++ m) → all ≡ take n (beside ++ r) → all ≡ take n (given ++ (l ++ e ∷ (m ++ r)))
  gathered n given first upto beside all l e m r is fewer next own last =
      let whole : first ≡ given ++ l = is ∙ all_taken n (given ++ l) (λ same. fewer (ap length is ∙ same)) in
      last ∙ ap (λ xs. take n (xs ++ r)) own ∙ take_both n (upto ++ m) r
      ∙ ap (λ xs. take n ((xs ++ m) ++ r)) next
      ∙ ap (take n) (append_assoc (first ++ e ∷ []) m r ∙ append_assoc first (e ∷ []) (m ++ r) ∙ ap (λ xs. xs ++ e ∷ (m ++ r)) whole ∙ append_assoc given l (e ∷ (m ++ r)))

  -- where there are so many, the others are left out
  pub enough : (n : ℕ) (given es xs : List A) (i : ℕ) → es ≡ given ++ take i xs → length es ≡ n → es ≡ take n (given ++ xs)
  enough n given es xs i is size =
      sym (take_at es (drop i xs) n size)
      ∙ ap (take n) (ap (λ ys. ys ++ drop i xs) is ∙ append_assoc given (take i xs) (drop i xs) ∙ ap (λ ys. given ++ ys) (take-append-drop i xs))

  -- where there are no more, all are there
  pub all_gathered : (n : ℕ) (given es xs : List A) (i : ℕ) → es ≡ given ++ take i xs → length xs ≤ i → length es ≤ n → es ≡ take n (given ++ xs)
  all_gathered n given es xs i is all few = sym (take_all n es few) ∙ ap (take n) (is ∙ ap (λ ys. given ++ ys) (take_all i xs all))
