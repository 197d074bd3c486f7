-- The first of some cubes that a cell lies within, and the first that has some headers.
use Rattle.std.proofs.Common.{◌≡◌, ℕ, zero, suc, Bool, true, false, cond, Option, Some, None, List, [], ◌∷◌, ◌++◌, length, refl, inl, inr, sym, ap, ◌∙◌}
use Rattle.std.specs.Option.{is_some, option_map}
use Rattle.std.specs.List.{slice_get}
use Rattle.std.proofs.lemmas.Bool.{cases_Bool, false≢true, false_from_ne_true}
use Rattle.net_types.specs.declared.cube.Cube.{Cube}
use Rattle.net_types.specs.declared.headers.Headers.{Headers}
use Rattle.net_types.specs.Cubes.{has, lies_within_cube}
use Rattle.net_types.specs.Meets.{IsMeet}
use Rattle.net_types.specs.Sets.{Member}
use Rattle.net_types.proofs.CubeLemmas.{has-everything, has-within}
use Rattle.net_types.proofs.MeetLemmas.{IsMeet-member}
use Rattle.cells.specs.Cells.{first_of, IsClosed}
use Rattle.cells.specs.Firsts.{place_by, first_place, first_with, firsts, noted}
use Rattle.cells.proofs.CellLemmas.{within-meet}

-- ---- the first cell of some headers

pub first-has : (cells : List Cube) (h : Headers) → has (first_of cells h) h ≡ true
first-has [] h = has-everything h
first-has (c ∷ cells) h = elim (cases_Bool (has c h)) [
  | inl here ↦ ap (λ b. has (cond b c (first_of cells h)) h) here ∙ here
  | inr away ↦ ap (λ b. has (cond b c (first_of cells h)) h) away ∙ first-has cells h
]

-- it stands at the place of the first that has them
pub first-stands : (cells : List Cube) (h : Headers) (a : Cube) → Member a cells → has a h ≡ true → (k : ℕ) × (slice_get cells k ≡ Some (first_of cells h))
first-stands [] h a m t = elim m [ ]
first-stands (c ∷ cells) h a m t = elim (cases_Bool (has c h)) [
  | inl here ↦ (0, ap Some (sym (ap (λ b. cond b c (first_of cells h)) here)))
  | inr away ↦ elim m [
    | inl same ↦ absurd (false≢true (sym away ∙ ap (λ x. has x h) (sym same) ∙ t))
    | inr later ↦ let r = first-stands cells h a later t in (suc r.0, r.1 ∙ ap Some (sym (ap (λ b. cond b c (first_of cells h)) away)))
  ]
]

-- of closed cells it lies within just those of their meets that have the headers
pub first-decides : (cells : List Cube) (h : Headers) (a : Cube) → IsClosed cells → IsMeet cells a → lies_within_cube (first_of cells h) a ≡ has a h
first-decides cells h a closed is_meet = elim (cases_Bool (has a h)) [
  | inl here ↦ within-meet cells (first_of cells h) a h (closed h) is_meet here ∙ sym here
  | inr away ↦ false_from_ne_true _ (λ t. false≢true (sym away ∙ has-within (first_of cells h) a h t (first-has cells h))) ∙ sym away
]

-- ---- places

place_by-same : {A : Type 0} (f g : A → Bool) (xs : List A) → ((x : A) → Member x xs → f x ≡ g x) → place_by f xs ≡ place_by g xs
place_by-same f g [] e = refl
place_by-same f g (x ∷ xs) e =
    ap (λ b. cond b (Some 0) (option_map suc (place_by f xs))) (e x (inl refl))
    ∙ ap (λ o. cond (g x) (Some 0) (option_map suc o)) (place_by-same f g xs (λ y m. e y (inr m)))

-- the first of the cubes that has some headers is the first that the first cell with them lies within, where the cubes are meets of the cells
pub first-same : (cells cubes : List Cube) (h : Headers) → IsClosed cells → ((a : Cube) → Member a cubes → IsMeet cells a) → first_place (first_of cells h) cubes ≡ first_with h cubes
first-same cells cubes h closed are = place_by-same (lies_within_cube (first_of cells h)) (λ a. has a h) cubes (λ a m. first-decides cells h a closed (are a m))

-- the same where they are cells
pub first-member : (cells cubes : List Cube) (h : Headers) → IsClosed cells → ((a : Cube) → Member a cubes → Member a cells) → first_place (first_of cells h) cubes ≡ first_with h cubes
first-member cells cubes h closed are = first-same cells cubes h closed (λ a m. IsMeet-member cells a (are a m))

-- what stands at a cell's place
pub firsts-at : (cubes cells : List Cube) (k : ℕ) (c : Cube) → slice_get cells k ≡ Some c → slice_get (firsts cubes cells) k ≡ Some (first_place c cubes)
firsts-at cubes [] k c e = absurd (none_some e)
  where
    none_some : None ≡ Some c → ⊥
    none_some e = false≢true (ap is_some e)
firsts-at cubes (x ∷ cells) zero c e = ap (option_map (λ y. first_place y cubes)) e
firsts-at cubes (x ∷ cells) (suc k) c e = firsts-at cubes cells k c e

-- ---- one cube more

some_suc : (n : ℕ) (b : Bool) → option_map suc (cond b (Some n) None) ≡ cond b (Some (suc n)) None
some_suc n true = refl
some_suc n false = refl

more-step : (n : ℕ) (a c : Cube) (b : Bool) (o : Option ℕ) → cond b (Some 0) (option_map suc (noted n a c o)) ≡ noted (suc n) a c (cond b (Some 0) (option_map suc o))
more-step n a c true o = refl
more-step n a c false None = some_suc n (lies_within_cube c a)
more-step n a c false (Some k) = refl

pub first-more : (c : Cube) (xs : List Cube) (a : Cube) → first_place c (xs ++ a ∷ []) ≡ noted (length xs) a c (first_place c xs)
first-more c [] a = refl
first-more c (x ∷ xs) a =
    ap (λ o. cond (lies_within_cube c x) (Some 0) (option_map suc o)) (first-more c xs a) ∙ more-step (length xs) a c (lies_within_cube c x) (first_place c xs)

-- further cubes change nothing where one was found
some_map : (o : Option ℕ) → is_some (option_map suc o) ≡ true → is_some o ≡ true
some_map None h = h
some_map (Some k) h = refl

front-step : (b : Bool) (o p : Option ℕ) → is_some (cond b (Some 0) (option_map suc o)) ≡ true → (is_some o ≡ true → p ≡ o) → cond b (Some 0) (option_map suc p) ≡ cond b (Some 0) (option_map suc o)
front-step true o p h e = refl
front-step false o p h e = ap (option_map suc) (e (some_map o h))

pub first-front : (c : Cube) (xs ys : List Cube) → is_some (first_place c xs) ≡ true → first_place c (xs ++ ys) ≡ first_place c xs
first-front c [] ys h = absurd (false≢true h)
first-front c (x ∷ xs) ys h = front-step (lies_within_cube c x) (first_place c xs) (first_place c (xs ++ ys)) h (first-front c xs ys)
