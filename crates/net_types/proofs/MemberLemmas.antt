-- Members of lists: by their places, of a list in another order, of what is left behind a front, of images, and what each has.
use Rattle.std.proofs.Common.{◌≡◌, ℕ, zero, suc, ◌<◌, List, [], ◌∷◌, ◌++◌, length, map, take, drop, ap, ◌∙◌, refl, sym, inl, inr, subst, arith}
use Rattle.std.specs.Prelude.{Option, Some, None, slice_index_or, Contains}
use Rattle.std.specs.List.{filter_map, cons_option}
use Rattle.std.specs.List.Sorted.{IsPermutation}
use Rattle.std.proofs.lemmas.List.{take-append-drop}
use Rattle.std.proofs.lemmas.List.Sorted.{Contains-permutation}
use Rattle.net_types.specs.Sets.{Each, Member}
use Rattle.net_types.proofs.SetLemmas.{Member-append_right}

pub Contains-Member : {A : Type 0} (xs : List A) (x : A) → Member x xs → Contains xs x
Contains-Member [] x m = elim m [ ]
Contains-Member (y ∷ xs) x (inl e) = (0, omega arith, sym e)
Contains-Member (y ∷ xs) x (inr m) =
    let c = Contains-Member xs x m in
    let less : c.0 < length xs = c.1 in
    (suc c.0, omega arith, c.2)

pub Member-at : {A : Type 0} (xs : List A) (k : ℕ) (d x : A) → k < length xs → slice_index_or xs k d ≡ x → Member x xs
Member-at [] k d x h e = absurd (omega arith)
Member-at (y ∷ xs) zero d x h e = inl (sym e)
Member-at (y ∷ xs) (suc k) d x h e = inr (Member-at xs k d x (omega arith) e)

-- a list in another order has the same members
pub Member-permutation : {A : Type 0} (xs ys : List A) (x : A) → IsPermutation xs ys → Member x xs → Member x ys
Member-permutation xs ys x p m =
    let c = Contains-permutation xs ys x p (Contains-Member xs x m) in
    Member-at ys c.0 x x c.1 c.2

pub Member-drop : {A : Type 0} (n : ℕ) (xs : List A) (x : A) → Member x (drop n xs) → Member x xs
Member-drop n xs x m = subst (Member x) (take-append-drop n xs) (Member-append_right (take n xs) (drop n xs) x m)

more_option : {A : Type 0} (o : Option A) (xs : List A) (x : A) → Member x xs → Member x (cons_option o xs)
more_option None xs x m = m
more_option (Some y) xs x m = inr m

pub Member-filter_map : {A B : Type 0} (f : A → Option B) (xs : List A) (x : A) (y : B) → Member x xs → f x ≡ Some y → Member y (filter_map f xs)
Member-filter_map f [] x y m e = elim m [ ]
Member-filter_map f (z ∷ xs) x y (inl same) e = subst (λ o. Member y (cons_option o (filter_map f xs))) (sym (ap f (sym same) ∙ e)) (inl refl)
Member-filter_map f (z ∷ xs) x y (inr m) e = more_option (f z) (filter_map f xs) y (Member-filter_map f xs x y m e)

pub same_map_on : {A B : Type 0} (f g : A → B) (xs : List A) → ((x : A) → Member x xs → f x ≡ g x) → map f xs ≡ map g xs
same_map_on f g [] h = refl
same_map_on f g (x ∷ xs) h = ap (λ y. y ∷ map f xs) (h x (inl refl)) ∙ ap (λ ys. g x ∷ ys) (same_map_on f g xs (λ y m. h y (inr m)))

-- ---- what each member has

pub each_of : {A : Type 0} (P : A → Type 0) (xs : List A) (x : A) → Each P xs → Member x xs → P x
each_of P [] x h m = elim m [ ]
each_of P (y ∷ xs) x h (inl e) = subst P (sym e) h.0
each_of P (y ∷ xs) x h (inr m) = each_of P xs x h.1 m

pub of_each : {A : Type 0} (P : A → Type 0) (xs : List A) → ((x : A) → Member x xs → P x) → Each P xs
of_each P [] h = tt
of_each P (x ∷ xs) h = (h x (inl refl), of_each P xs (λ y m. h y (inr m)))

pub each_append : {A : Type 0} (P : A → Type 0) (xs ys : List A) → Each P xs → Each P ys → Each P (xs ++ ys)
each_append P [] ys h k = k
each_append P (x ∷ xs) ys h k = (h.0, each_append P xs ys h.1 k)
