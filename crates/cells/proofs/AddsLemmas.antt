-- Values put last, each once, as sets.
use Rattle.std.proofs.Common.{◌≡◌, ◌<◌, ℕ, length, cond, Bool, true, false, ◌&&◌, ◌||◌, Some, List, [], ◌∷◌, ◌++◌, ◌+◌, drop, get_or, append_assoc, refl, inl, inr, sym, ap, ◌∙◌, subst}
use Rattle.std.specs.List.{list_any, list_all, IsDistinct, AllByRecursion}
use Rattle.std.specs.HashSet.{HashSet, contains}
use Rattle.std.proofs.lemmas.List.{at_drop_more, append-nil}
use Rattle.std.proofs.lemmas.Bool.{and_parts, or_cases, cases_Bool, false≢true}
use Rattle.std.proofs.Math.Bool.{or-true, and_comm}
use Rattle.indexmap.specs.IndexSet.{insert_key}
use Rattle.net_types.specs.declared.cube.Cube.{Cube}
use Rattle.net_types.specs.Cubes.{lies_within_cube}
use Rattle.net_types.specs.Sets.{Member, SameMembers, HasNoRepeats}
use Rattle.net_types.specs.Meets.{has_cube, add_found}
use Rattle.net_types.proofs.SetLemmas
use Rattle.classifier.specs.Seen.{cube_eq}
use Rattle.classifier.proofs.SeenLemmas.{cube_eq_exact, cube_eq_refl, cube_eq_is}
use Rattle.cells.specs.Adds.{adds}

module _ {A : Type 0} (eq : A → A → Bool) (exact : (x y : A) → eq x y ≡ true → x ≡ y) (reflexive : (x : A) → eq x x ≡ true) where
  pub any-Member : (ks : List A) (x : A) → list_any (eq x) ks ≡ true → Member x ks
  any-Member [] x h = absurd (false≢true h)
  any-Member (k ∷ ks) x h = elim (or_cases (eq x k) (list_any (eq x) ks) h) [ inl here ↦ inl (exact x k here) | inr later ↦ inr (any-Member ks x later) ]

  pub Member-any : (ks : List A) (x : A) → Member x ks → list_any (eq x) ks ≡ true
  Member-any [] x h = elim h [ ]
  Member-any (k ∷ ks) x (inl e) = ap (λ b. b || list_any (eq x) ks) (ap (eq x) (sym e) ∙ reflexive x)
  Member-any (k ∷ ks) x (inr h) = ap (λ b. eq x k || b) (Member-any ks x h) ∙ or-true (eq x k)

  -- what is there and the new value, and nothing else, is there afterwards
  insert-same : (ks : List A) (x : A) → SameMembers (insert_key eq ks x) (ks ++ x ∷ [])
  insert-same ks x = elim (cases_Bool (list_any (eq x) ks)) [
    | inl there ↦ subst (λ b. SameMembers (cond b ks (ks ++ x ∷ [])) (ks ++ x ∷ [])) (sym there)
        (record {
          onto = λ z k. SetLemmas.Member-append_left ks (x ∷ []) z k;
          back = λ z k. elim (SetLemmas.Member-append_cases ks (x ∷ []) z k) [
            | inl old ↦ old
            | inr new ↦ elim new [ inl e ↦ subst (λ y. Member y ks) (sym e) (any-Member ks x there) | inr none ↦ elim none [ ] ]
          ];
        })
    | inr absent ↦ subst (λ b. SameMembers (cond b ks (ks ++ x ∷ [])) (ks ++ x ∷ [])) (sym absent) (SetLemmas.same_refl (ks ++ x ∷ []))
  ]

  pub adds-same : (ks xs : List A) → SameMembers (adds eq ks xs) (ks ++ xs)
  adds-same ks [] = record { onto = λ z k. SetLemmas.Member-append_left ks [] z k; back = λ z k. elim (SetLemmas.Member-append_cases ks [] z k) [ inl old ↦ old | inr none ↦ elim none [ ] ] }
  adds-same ks (x ∷ xs) =
      SetLemmas.same_trans (adds-same (insert_key eq ks x) xs)
      (SetLemmas.same_trans (SetLemmas.same_append (insert-same ks x) (SetLemmas.same_refl xs)) (SetLemmas.same_eq (append_assoc ks (x ∷ []) xs)))

  -- keys that no test finds equal differ
  pub IsDistinct-HasNoRepeats : (ks : List A) → IsDistinct eq ks → HasNoRepeats ks
  unfolding IsDistinct
  IsDistinct-HasNoRepeats [] d = tt
  IsDistinct-HasNoRepeats (k ∷ ks) d = (λ h. apart ks h d.0, IsDistinct-HasNoRepeats ks d.1)
    where
      apart : (xs : List A) → Member k xs → AllByRecursion (λ y. eq k y ≡ false) xs → ⊥
      apart [] h a = elim h [ ]
      apart (x ∷ xs) (inl e) a = false≢true (sym a.0 ∙ ap (eq k) (sym e) ∙ reflexive k)
      apart (x ∷ xs) (inr h) a = apart xs h a.1

-- what stands behind others that differ from it isn't among them
differ-apart : {A : Type 0} (ks xs : List A) (x : A) → HasNoRepeats (ks ++ x ∷ xs) → Member x ks → ⊥
differ-apart [] xs x d h = elim h [ ]
differ-apart (k ∷ ks) xs x d (inl e) = d.0 (subst (λ y. Member y (ks ++ x ∷ xs)) e (SetLemmas.Member-append_right ks (x ∷ xs) x (inl refl)))
differ-apart (k ∷ ks) xs x d (inr h) = differ-apart ks xs x d.1 h

module _ {A : Type 0} (eq : A → A → Bool) (exact : (x y : A) → eq x y ≡ true → x ≡ y) (reflexive : (x : A) → eq x x ≡ true) where
  insert-new : (ks : List A) (x : A) → (Member x ks → ⊥) → insert_key eq ks x ≡ ks ++ x ∷ []
  insert-new ks x new = elim (cases_Bool (list_any (eq x) ks)) [
    | inl there ↦ absurd (new (any-Member eq exact reflexive ks x there))
    | inr absent ↦ ap (λ b. cond b ks (ks ++ x ∷ [])) absent
  ]

  -- values that differ are put last as they are
  pub adds-HasNoRepeats : (ks xs : List A) → HasNoRepeats (ks ++ xs) → adds eq ks xs ≡ ks ++ xs
  adds-HasNoRepeats ks [] d = sym (append-nil ks)
  adds-HasNoRepeats ks (x ∷ xs) d =
      ap (λ ws. adds eq ws xs) (insert-new ks x (differ-apart ks xs x d))
      ∙ adds-HasNoRepeats (ks ++ x ∷ []) xs (subst HasNoRepeats (sym (append_assoc ks (x ∷ []) xs)) d)
      ∙ append_assoc ks (x ∷ []) xs

pub adds_append : {A : Type 0} (eq : A → A → Bool) (ks xs ys : List A) → adds eq ks (xs ++ ys) ≡ adds eq (adds eq ks xs) ys
adds_append eq ks [] ys = refl
adds_append eq ks (x ∷ xs) ys = adds_append eq (insert_key eq ks x) xs ys

-- ---- sets of cubes

pub cubes-same : (ks xs : List Cube) → SameMembers (adds cube_eq ks xs) (ks ++ xs)
cubes-same = adds-same cube_eq cube_eq_exact cube_eq_refl

any-has_cube : (ks : List Cube) (c : Cube) → list_any (cube_eq c) ks ≡ has_cube ks c
any-has_cube [] c = refl
any-has_cube (k ∷ ks) c =
    ap (λ b. b || list_any (cube_eq c) ks) (cube_eq_is c k ∙ and_comm (lies_within_cube c k) (lies_within_cube k c))
    ∙ ap (λ b. (lies_within_cube k c && lies_within_cube c k) || b) (any-has_cube ks c)

-- cubes that no test finds equal, put into an empty set
pub cubes-copied : (ks : List Cube) → IsDistinct cube_eq ks → adds cube_eq [] ks ≡ ks
cubes-copied ks d = adds-HasNoRepeats cube_eq cube_eq_exact cube_eq_refl [] ks (IsDistinct-HasNoRepeats cube_eq cube_eq_exact cube_eq_refl ks d)

-- a cube put last, unless it is there, as a meet that is found
pub insert_found : (ks : List Cube) (c : Cube) → insert_key cube_eq ks c ≡ add_found ks (Some c)
insert_found ks c = ap (λ b. cond b ks (ks ++ c ∷ [])) (any-has_cube ks c)

-- cubes that are all in a set stand in the list of its keys
pub all-Member : {S : Type 0} (set : HashSet Cube S) (others : List Cube) → list_all (contains cube_eq set) others ≡ true → (c : Cube) → Member c others → Member c set.keys
all-Member set [] h c k = elim k [ ]
all-Member set (x ∷ others) h c k =
    let parts = and_parts (contains cube_eq set x) (list_all (contains cube_eq set) others) h in
    elim k [
      | inl e ↦ subst (λ y. Member y set.keys) (sym e) (any-Member cube_eq cube_eq_exact cube_eq_refl set.keys x parts.0)
      | inr later ↦ all-Member set others parts.1 c later
    ]

-- the step of a loop that puts what each item of a list gives
module _ {A B : Type 0} (eq : A → A → Bool) (F : List B → List A) (f : B → List A) (head : (x : B) (xs : List B) → F (x ∷ xs) ≡ f x ++ F xs) where
  pub adds_more : (kept : List A) (xs : List B) (i : ℕ) (d : B) → i < length xs → adds eq kept (F (drop i xs)) ≡ adds eq (adds eq kept (f (get_or xs i d))) (F (drop (i + 1) xs))
  adds_more kept xs i d lt =
      ap (adds eq kept) (at_drop_more F xs i d lt ∙ head (get_or xs i d) (drop (i + 1) xs))
      ∙ adds_append eq kept (f (get_or xs i d)) (F (drop (i + 1) xs))
