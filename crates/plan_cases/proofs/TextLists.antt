-- Lists of texts in which those of one participant are others.
use Rattle.std.proofs.Common.{◌≡◌, ℕ, zero, suc, List, [], ◌∷◌, map, ap, ◌∙◌, refl}
use Rattle.std.specs.Prelude.{slice_index_or, slice_set}

-- what one has is another
pub set_other : {A B : Type 0} (f : A → B) (xs : List A) (k : ℕ) (y : A) → map f (slice_set xs k y) ≡ slice_set (map f xs) k (f y)
set_other f [] k y = refl
set_other f (x ∷ xs) zero y = refl
set_other f (x ∷ xs) (suc k) y = ap (λ zs. f x ∷ zs) (set_other f xs k y)

-- what all have stays
pub set_same : {A B : Type 0} (f : A → B) (xs : List A) (k : ℕ) (old y : A) → f y ≡ f old → old ≡ slice_index_or xs k old → map f (slice_set xs k y) ≡ map f xs
set_same f [] k old y same is = refl
set_same f (x ∷ xs) zero old y same is = ap (λ z. z ∷ map f xs) (same ∙ ap f is)
set_same f (x ∷ xs) (suc k) old y same is = ap (λ zs. f x ∷ zs) (set_same f xs k old y same is)
