-- Places of lists that are mapped or taken.
use Rattle.std.proofs.Common.{◌≡◌, ℕ, zero, suc, ◌<◌, List, [], ◌∷◌, map, take, ap, refl, arith}
use Rattle.std.specs.Prelude.{Some, slice_get}
use Rattle.std.proofs.lemmas.Option.{same_Some}

pub get_mapped : {A B : Type 0} (f : A → B) (xs : List A) (k : ℕ) (y : B) → slice_get (map f xs) k ≡ Some y → (x : A) × (slice_get xs k ≡ Some x) × (f x ≡ y)
get_mapped f [] k y e = absurd (cc)
get_mapped f (x ∷ xs) zero y e = (x, refl, same_Some (f x) y e)
get_mapped f (x ∷ xs) (suc k) y e = get_mapped f xs k y e

pub mapped_at : {A B : Type 0} (f : A → B) (xs : List A) (k : ℕ) (x : A) → slice_get xs k ≡ Some x → slice_get (map f xs) k ≡ Some (f x)
mapped_at f [] k x e = absurd (cc)
mapped_at f (y ∷ xs) zero x e = ap (λ z. Some (f z)) (same_Some y x e)
mapped_at f (y ∷ xs) (suc k) x e = mapped_at f xs k x e

pub get_taken : {A : Type 0} (n : ℕ) (xs : List A) (k : ℕ) (x : A) → slice_get (take n xs) k ≡ Some x → slice_get xs k ≡ Some x
get_taken zero xs k x e = absurd (cc)
get_taken (suc n) [] k x e = absurd (cc)
get_taken (suc n) (y ∷ xs) zero x e = e
get_taken (suc n) (y ∷ xs) (suc k) x e = get_taken n xs k x e

pub taken_at : {A : Type 0} (n : ℕ) (xs : List A) (k : ℕ) (x : A) → k < n → slice_get xs k ≡ Some x → slice_get (take n xs) k ≡ Some x
taken_at zero xs k x below e = absurd (omega arith)
taken_at (suc n) [] k x below e = absurd (cc)
taken_at (suc n) (y ∷ xs) zero x below e = e
taken_at (suc n) (y ∷ xs) (suc k) x below e = taken_at n xs k x (omega arith) e
