-- What is found in a list, and where a test passes.
use Rattle.std.proofs.Common.{◌≡◌, ℕ, zero, suc, ◌+◌, Bool, true, false, cond, ◌||◌, List, [], ◌∷◌, ◌<◌, length, map, take, sym, ap, subst, ◌∙◌, refl, arith, inl, inr}
use Rattle.std.specs.Prelude.{Option, Some, None, is_some, find, option_copied, slice_get}
use Rattle.std.specs.Borrow.{Bor}
use Rattle.std.specs.List.{list_any, filter_map, cons_option, position_from}
use Rattle.std.specs.Option.{option_map}
use Rattle.std.proofs.lemmas.Bool.{false_from_ne_true, or_left, or_right}
use Rattle.net_types.specs.Routes.{numbers}
use Rattle.net_types.specs.Sets.{Member}

-- a choice between one thing and itself
pub cond_same : {A : Type 0} (b : Bool) (x : A) → cond b x x ≡ x
cond_same true x = refl
cond_same false x = refl

pub is_some-map : {A B : Type 0} (f : A → B) (o : Option A) → is_some (option_map f o) ≡ is_some o
is_some-map f None = refl
is_some-map f (Some x) = refl

pub is_some-cond : {A : Type 0} (b : Bool) (x : A) → is_some (cond b (Some x) None) ≡ b
is_some-cond true x = refl
is_some-cond false x = refl

pub none_there : {A : Type 0} (o : Option A) → is_some o ≡ false → o ≡ None
none_there None e = refl
none_there (Some x) e = cc

pub some_same : {A : Type 0} (o : Option A) (x y : A) → o ≡ Some x → o ≡ Some y → x ≡ y
some_same o x y e f = cc

pub nothing : {A : Type 0} (o : Option A) → (is_some o ≡ true → ⊥) → o ≡ None
nothing o never = none_there o (false_from_ne_true (is_some o) never)

-- nothing isn't something
pub not_there : {A : Type 0} (o : Option A) (x : A) → o ≡ None → o ≡ Some x → ⊥
not_there o x none some = cc

-- what is found stands in the list, and passes
pub record IsFound {A : Type 0} (test : A → Bool) (xs : List A) (x : A) : Type 0 where
  pub stands : Member x xs
  pub passes : test x ≡ true

pub find-IsFound : {A : Type 0} (test : A → Bool) (xs : List A) (x : A) → find test xs ≡ Some x → IsFound test xs x
find-IsFound test [] x e = absurd (cc)
find-IsFound test (y ∷ xs) x e =
    elim (test y) as (λ b. test y ≡ b → cond b (Some y) (find test xs) ≡ Some x → IsFound test (y ∷ xs) x) [
      | true ↦ λ t is. let same : y ≡ x = cc in record { stands = inl (sym same); passes = subst (λ z. test z ≡ true) same t }
      | false ↦ λ t is. let rest = find-IsFound test xs x is in record { stands = inr rest.stands; passes = rest.passes }
    ] refl e

-- nothing is found where no member passes
pub find_none : {A : Type 0} (test : A → Bool) (xs : List A) → ((x : A) → Member x xs → test x ≡ false) → find test xs ≡ None
find_none test [] h = refl
find_none test (x ∷ xs) h = ap (λ b. cond b (Some x) (find test xs)) (h x (inl refl)) ∙ find_none test xs (λ y m. h y (inr m))

-- a member passes where one has a place
pub any_position : {A : Type 0} (test : A → Bool) (n : ℕ) (xs : List A) → list_any test xs ≡ is_some (position_from test n xs)
any_position test n [] = refl
any_position test n (x ∷ xs) = elim (test x) as (λ b. (b || list_any test xs) ≡ is_some (cond b (Some n) (position_from test (n + 1) xs))) [ true ↦ refl | false ↦ any_position test (n + 1) xs ]

-- a member that passes makes a test of the list pass
pub any_at : {A : Type 0} (test : A → Bool) (xs : List A) (x : A) → Member x xs → test x ≡ true → list_any test xs ≡ true
any_at test [] x m t = elim m [ ]
any_at test (y ∷ xs) x (inl e) t = or_left (test y) (list_any test xs) (subst (λ z. test z ≡ true) e t)
any_at test (y ∷ xs) x (inr m) t = or_right (test y) (list_any test xs) (any_at test xs x m t)

-- a member of a front is one of the list
pub Member-take : {A : Type 0} (n : ℕ) (xs : List A) (x : A) → Member x (take n xs) → Member x xs
Member-take zero xs x m = elim m [ ]
Member-take (suc n) [] x m = elim m [ ]
Member-take (suc n) (y ∷ xs) x (inl e) = inl e
Member-take (suc n) (y ∷ xs) x (inr m) = inr (Member-take n xs x m)

pub slice_get-Member : {A : Type 0} (xs : List A) (k : ℕ) (x : A) → slice_get xs k ≡ Some x → Member x xs
slice_get-Member [] k x e = absurd (cc)
slice_get-Member (y ∷ xs) zero x e = inl (let same : y ≡ x = cc in sym same)
slice_get-Member (y ∷ xs) (suc k) x e = inr (slice_get-Member xs k x e)

pub length-numbers : (low count : ℕ) → length (numbers low count) ≡ count
length-numbers low zero = refl
length-numbers low (suc count) = ap suc (length-numbers (low + 1) count)

-- tests of numbers from low on, and of the members at the places
pub any_place : {A B : Type 0} (f : B → Bool) (at : ℕ → B) (g : A → Bool) (low : ℕ) (xs : List A) → ((k j : ℕ) (x : A) → j ≡ low + k → slice_get xs k ≡ Some x → f (at j) ≡ g x) → list_any f (map at (numbers low (length xs))) ≡ list_any g xs
any_place f at g low [] h = refl
any_place f at g low (x ∷ xs) h =
    ap (λ b. b || list_any f (map at (numbers (low + 1) (length xs)))) (h 0 low x (omega arith) refl)
    ∙ ap (λ b. g x || b) (any_place f at g (low + 1) xs (λ k j y e is. h (suc k) j y (omega arith) is))

pub any_false : {A : Type 0} (xs : List A) → list_any (λ x. false) xs ≡ false
any_false [] = refl
any_false (x ∷ xs) = any_false xs

pub filter_map_none : {A B : Type 0} (f : A → Option B) (xs : List A) → ((x : A) → f x ≡ None) → filter_map f xs ≡ []
filter_map_none f [] h = refl
filter_map_none f (x ∷ xs) h = ap (λ o. cons_option o (filter_map f xs)) (h x) ∙ filter_map_none f xs h

pub filter_map-map : {A B C : Type 0} (f : B → Option C) (g : A → B) (xs : List A) → filter_map f (map g xs) ≡ filter_map (λ x. f (g x)) xs
filter_map-map f g [] = refl
filter_map-map f g (x ∷ xs) = ap (cons_option (f (g x))) (filter_map-map f g xs)

-- each place below the length has a member
pub slice_get_some : {A : Type 0} (xs : List A) (k : ℕ) → k < length xs → (x : A) × (slice_get xs k ≡ Some x)
slice_get_some [] k h = absurd (omega arith)
slice_get_some (x ∷ xs) zero h = (x, refl)
slice_get_some (x ∷ xs) (suc k) h = slice_get_some xs k (omega arith)

-- a value that is lent is there where its copy is
pub is_some-copied : {A : Type 0} (o : Option (Bor A)) → is_some (option_copied o) ≡ is_some o
is_some-copied None = refl
is_some-copied (Some x) = refl
