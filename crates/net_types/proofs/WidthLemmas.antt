-- Laws of counting: lists without repeats, and the meets of lists, each once.
use Rattle.std.proofs.Common.{◌≡◌, ◌≤◌, ◌⊎◌, ℕ, suc, arith, length, cond, true, ◌&&◌, ◌||◌, Option, Some, None, List, [], ◌∷◌, ◌++◌, refl, inl, inr, sym, ap, ◌∙◌, subst}
use Rattle.std.proofs.lemmas.Bool.{and_from, cases_Bool, false≢true}
use Rattle.std.proofs.Math.Bool.{or-true}
use Rattle.net_types.specs.declared.cube.Cube.{Cube}
use Rattle.net_types.specs.Cubes.{meet_cubes, lies_within_cube}
use Rattle.net_types.specs.Sets.{Member, HasNoRepeats}
use Rattle.net_types.specs.Meets.{has_cube, add_found, add_meets, meets}
use Rattle.net_types.specs.Widths.{HasMoreThan}
use Rattle.net_types.proofs.SetLemmas
use Rattle.net_types.proofs.CubeLemmas.{within_refl}
use Rattle.net_types.proofs.MeetLemmas.{meets-IsMeet, IsMeet-meets, IsMeet-meet, IsMeet-member, IsMeet-wider}

-- ---- lists without repeats

-- a list without one of its members
record Without {A : Type 0} (x : A) (ys : List A) : Type 0 where
  rest : List A
  shorter : length ys ≡ suc (length rest)
  others : (y : A) → Member y ys → (y ≡ x) ⊎ Member y rest

without : {A : Type 0} (x : A) (ys : List A) → Member x ys → Without x ys
without x [] h = elim h [ ]
without x (y ∷ ys) (inl e) = record { rest = ys; shorter = refl; others = λ z k. elim k [ inl f ↦ inl (f ∙ sym e) | inr m ↦ inr m ] }
without x (y ∷ ys) (inr h) =
    let w = without x ys h in
    record {
      rest = y ∷ w.rest;
      shorter = ap suc w.shorter;
      others = λ z k. elim k [ inl f ↦ inr (inl f) | inr m ↦ elim (w.others z m) [ inl e ↦ inl e | inr r ↦ inr (inr r) ] ];
    }

-- different members of a list are no more than its members
pub no_longer : {A : Type 0} (xs ys : List A) → HasNoRepeats xs → ((x : A) → Member x xs → Member x ys) → length xs ≤ length ys
no_longer [] ys d stand = omega arith
no_longer {A} (x ∷ xs) ys d stand =
    let w = without x ys (stand x (inl refl)) in
    omega (arith, w.shorter, no_longer xs w.rest d.1 (λ z k. kept w z k))
  where
    kept : (w : Without x ys) (z : A) → Member z xs → Member z w.rest
    kept w z k = elim (w.others z (stand z (inr k))) [ inl e ↦ absurd (d.0 (subst (λ v. Member v xs) e k)) | inr r ↦ r ]

pub HasNoRepeats-push : {A : Type 0} (xs : List A) (y : A) → HasNoRepeats xs → (Member y xs → ⊥) → HasNoRepeats (xs ++ y ∷ [])
HasNoRepeats-push [] y d fresh = (λ k. elim k [ ], tt)
HasNoRepeats-push (x ∷ xs) y d fresh = (λ k. elim (SetLemmas.Member-append_cases xs (y ∷ []) x k) [ inl old ↦ d.0 old | inr new ↦ elim new [ inl e ↦ fresh (inl (sym e)) | inr none ↦ elim none [ ] ] ], HasNoRepeats-push xs y d.1 (λ k. fresh (inr k)))

-- what has more than so many has them in each list that holds its members
pub more_wider : {A : Type 0} (n : ℕ) (xs ys : List A) → ((x : A) → Member x xs → Member x ys) → HasMoreThan n xs → HasMoreThan n ys
more_wider n xs ys stand m = record { some = m.some; differ = m.differ; stand = λ x k. stand x (m.stand x k); more = m.more }

-- a list that is short enough has no more different members
pub not_more : {A : Type 0} (n : ℕ) (xs : List A) → length xs ≤ n → HasMoreThan n xs → ⊥
not_more n xs short m = omega (arith, m.more, no_longer m.some xs m.differ m.stand)

-- ---- each meet stands once

pub Member-has_cube : (xs : List Cube) (c : Cube) → Member c xs → has_cube xs c ≡ true
Member-has_cube [] c h = elim h [ ]
Member-has_cube (x ∷ xs) c (inl e) = ap (λ b. b || has_cube xs c) (subst (λ y. (lies_within_cube x y && lies_within_cube y x) ≡ true) (sym e) (and_from _ _ (within_refl x) (within_refl x)))
Member-has_cube (x ∷ xs) c (inr h) = ap (λ b. (lies_within_cube x c && lies_within_cube c x) || b) (Member-has_cube xs c h) ∙ or-true (lies_within_cube x c && lies_within_cube c x)

add_found-HasNoRepeats : (kept : List Cube) (o : Option Cube) → HasNoRepeats kept → HasNoRepeats (add_found kept o)
add_found-HasNoRepeats kept None d = d
add_found-HasNoRepeats kept (Some c) d = elim (cases_Bool (has_cube kept c)) [
  | inl there ↦ subst (λ b. HasNoRepeats (cond b kept (kept ++ c ∷ []))) (sym there) d
  | inr absent ↦ subst (λ b. HasNoRepeats (cond b kept (kept ++ c ∷ []))) (sym absent) (HasNoRepeats-push kept c d (λ k. false≢true (sym absent ∙ Member-has_cube kept c k)))
]

add_meets-HasNoRepeats : (c : Cube) (kept ms : List Cube) → HasNoRepeats kept → HasNoRepeats (add_meets c kept ms)
add_meets-HasNoRepeats c kept [] d = d
add_meets-HasNoRepeats c kept (m ∷ ms) d = add_meets-HasNoRepeats c (add_found kept (meet_cubes c m)) ms (add_found-HasNoRepeats kept (meet_cubes c m) d)

pub meets-HasNoRepeats : (cubes : List Cube) → HasNoRepeats (meets cubes)
meets-HasNoRepeats [] = (λ k. elim k [ ], tt)
meets-HasNoRepeats (c ∷ cubes) = add_meets-HasNoRepeats c (meets cubes) (meets cubes) (meets-HasNoRepeats cubes)

-- ---- how many meets there are

-- where the cubes of one list stand in another, it has no more meets
pub meets-fewer : (xs ys : List Cube) → ((c : Cube) → Member c xs → Member c ys) → length (meets xs) ≤ length (meets ys)
meets-fewer xs ys stand = no_longer (meets xs) (meets ys) (meets-HasNoRepeats xs) (λ x k. IsMeet-meets ys x (IsMeet-wider xs ys (λ c m. IsMeet-member ys c (stand c m)) x (meets-IsMeet xs x k)))

-- a cube that is a meet already adds none
all_there : (c : Cube) (kept ms : List Cube) → ((m x : Cube) → Member m ms → meet_cubes c m ≡ Some x → Member x kept) → add_meets c kept ms ≡ kept
all_there c kept [] there = refl
all_there c kept (m ∷ ms) there =
    ap (λ ks. add_meets c ks ms) (found_there (meet_cubes c m) (λ x e. there m x (inl refl) e)) ∙ all_there c kept ms (λ n x k e. there n x (inr k) e)
  where
    found_there : (o : Option Cube) → ((x : Cube) → o ≡ Some x → Member x kept) → add_found kept o ≡ kept
    found_there None h = refl
    found_there (Some x) h = ap (λ b. cond b kept (kept ++ x ∷ [])) (Member-has_cube kept x (h x refl))

pub meets-again : (c : Cube) (cubes : List Cube) → Member c (meets cubes) → meets (c ∷ cubes) ≡ meets cubes
meets-again c cubes h =
    all_there c (meets cubes) (meets cubes) (λ m x k e. IsMeet-meets cubes x (IsMeet-meet cubes c m x (meets-IsMeet cubes c h) (meets-IsMeet cubes m k) e))
