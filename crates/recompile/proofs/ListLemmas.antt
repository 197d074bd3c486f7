-- The last item of a list.
use Rattle.std.proofs.Common.{◌≡◌, ℕ, zero, suc, ◌+◌, ◌-◌, ◌≤◌, ◌⊎◌, List, [], ◌∷◌, length, take, refl, sym, ap, subst, ◌∙◌, inl, inr, arith}
use Rattle.std.specs.Prelude.{Some, None, slice_get}
use Rattle.std.proofs.lemmas.List.{length-take-le}
use Rattle.net_types.proofs.FindLemmas.{not_there, slice_get_some}
use Rattle.net_types.specs.Sets.{Member}

before_last : {A : Type 0} (k : ℕ) (xs : List A) (x y : A) → length xs ≡ suc k → slice_get xs k ≡ Some x → Member y xs → Member y (take k xs) ⊎ (y ≡ x)
before_last k [] x y e at m = elim m [ ]
before_last zero (z ∷ []) x y e at (inl same) = inr (let it : z ≡ x = cc in same ∙ it)
before_last zero (z ∷ []) x y e at (inr m) = elim m [ ]
before_last zero (z ∷ w ∷ ws) x y e at m = absurd (omega (arith, e))
before_last (suc k) (z ∷ zs) x y e at (inl same) = inl (inl same)
before_last (suc k) (z ∷ zs) x y e at (inr m) = elim (before_last k zs x y (omega (arith, e)) at m) [ inl front ↦ inl (inr front) | inr last ↦ inr last ]

-- a member of a list is the last one, or among the others
pub all_but_last : {A : Type 0} (xs rest : List A) (n : ℕ) (x : A) → n ≡ length xs → rest ≡ take (n - 1) xs → Some x ≡ slice_get xs (length xs - 1) → (y : A) → Member y xs → Member y rest ⊎ (y ≡ x)
all_but_last [] rest n x count is at y m = elim m [ ]
all_but_last (z ∷ zs) rest n x count is at y m =
    let one : length (z ∷ zs) - 1 ≡ length zs = omega arith in
    let front : rest ≡ take (length zs) (z ∷ zs) = is ∙ ap (λ k. take (k - 1) (z ∷ zs)) count ∙ ap (λ k. take k (z ∷ zs)) one in
    elim (before_last (length zs) (z ∷ zs) x y (omega arith) (ap (slice_get (z ∷ zs)) (sym one) ∙ sym at) m) [
      | inl there ↦ inl (subst (Member y) (sym front) there)
      | inr last ↦ inr last
    ]

-- and the others are one fewer
pub fewer_by_last : {A : Type 0} (xs rest : List A) (n : ℕ) (x : A) → n ≡ length xs → rest ≡ take (n - 1) xs → Some x ≡ slice_get xs (length xs - 1) → length rest + 1 ≤ length xs
fewer_by_last [] rest n x count is at = absurd (not_there (slice_get [] 0) x refl (sym at))
fewer_by_last (z ∷ zs) rest n x count is at =
    let long : length rest ≡ n - 1 = ap length is ∙ length-take-le (n - 1) (z ∷ zs) (omega (arith, count)) in
    omega (arith, long, count)

pub no_last : {A : Type 0} (xs : List A) → None ≡ slice_get xs (length xs - 1) → xs ≡ []
no_last [] e = refl
no_last (x ∷ xs) e =
    let some = slice_get_some (x ∷ xs) (length (x ∷ xs) - 1) (omega arith) in
    absurd (not_there (slice_get (x ∷ xs) (length (x ∷ xs) - 1)) some.0 (sym e) some.1)
