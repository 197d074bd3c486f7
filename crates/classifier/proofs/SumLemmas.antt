-- Sums of classifiers, made of the sums of their halves.
use Rattle.std.proofs.Common.{◌≡◌, ℕ, take, drop, List, [], ◌∷◌, ◌++◌, refl, inl, inr, sym, ap, ◌∙◌, subst}
use Rattle.std.proofs.lemmas.List.{append-nil, take-append-drop}
use Rattle.net_types.specs.declared.cube.Cube.{Cube}
use Rattle.net_types.specs.declared.headers.Headers.{Headers}
use Rattle.net_types.specs.declared.headers.Loc.{Loc}
use Rattle.net_types.specs.declared.headers.Assign.{Assign}
use Rattle.net_types.specs.Cubes.{everything}
use Rattle.net_types.specs.Meets.{IsMeet}
use Rattle.net_types.specs.Sets.{Member, SameMembers, union_over}
use Rattle.net_types.proofs.SetLemmas
use Rattle.net_types.proofs.MeetLemmas.{IsMeet-member, IsMeet-sum}
use Rattle.classifier.specs.declared.classifier.Classifier.{Classifier}
use Rattle.classifier.specs.Meaning as lines
use Rattle.classifier.specs.Classifiers.{lines_of, meaning, cubes_of, assigns_of}
use Rattle.classifier.specs.Sums.{IsSum}

-- what a function gives of two lists is what it gives of each
pub union-append : {A B : Type 0} (f : A → List B) (xs ys : List A) → union_over f (xs ++ ys) ≡ union_over f xs ++ union_over f ys
union-append f [] ys = refl
union-append f (x ∷ xs) ys = ap (λ zs. f x ++ zs) (union-append f xs ys) ∙ append_assoc (f x) (union_over f xs) (union_over f ys)
  where
    append_assoc : {C : Type 0} (us bs cs : List C) → us ++ (bs ++ cs) ≡ (us ++ bs) ++ cs
    append_assoc [] bs cs = refl
    append_assoc (u ∷ us) bs cs = ap (λ ds. u ∷ ds) (append_assoc us bs cs)

-- of no parts
pub sum-none : (c : Classifier) → ((h : Headers) (l : Loc) → meaning c h l ≡ []) → cubes_of c ≡ everything ∷ [] → ((m : Assign) → Member m (assigns_of c) → Member m []) → IsSum [] c
sum-none c means cubes assigns = record {
  union = λ h l. SetLemmas.same_eq (means h l);
  cubes = λ x k. elim (subst (Member x) cubes k) [ inl e ↦ e | inr none ↦ elim none [ ] ];
  assigns = assigns;
}

-- of one part, by the same rules
pub sum-one : (a c : Classifier) → lines_of c ≡ lines_of a → IsSum (a ∷ []) c
sum-one a c e = record {
  union = λ h l. SetLemmas.same_eq (ap (λ xs. lines.meaning xs h l) e ∙ sym (append-nil (meaning a h l)));
  cubes = λ x k. IsMeet-member (cubes_of a ++ []) x (SetLemmas.Member-append_left (cubes_of a) [] x (subst (λ xs. Member x (lines.cubes_of xs)) e k));
  assigns = λ m k. SetLemmas.Member-append_left (assigns_of a) [] m (subst (λ xs. Member m (lines.assigns_of xs)) e k);
}

-- of the parts of two sums
pub sum-both : (xs ys : List Classifier) (a b c : Classifier) → IsSum xs a → IsSum ys b
    → ((h : Headers) (l : Loc) → SameMembers (meaning c h l) (meaning a h l ++ meaning b h l))
    → ((x : Cube) → Member x (cubes_of c) → IsMeet (cubes_of a ++ cubes_of b) x)
    → ((m : Assign) → Member m (assigns_of c) → Member m (assigns_of a ++ assigns_of b)) → IsSum (xs ++ ys) c
sum-both xs ys a b c f g means cubes assigns = record {
  union = λ h l. SetLemmas.same_trans (means h l) (SetLemmas.same_trans (SetLemmas.same_append (f.union h l) (g.union h l))
      (SetLemmas.same_eq (sym (union-append (λ (x : Classifier). meaning x h l) xs ys))));
  cubes = λ x k. subst (λ atoms. IsMeet atoms x) (sym (union-append cubes_of xs ys))
      (IsMeet-sum (cubes_of a) (cubes_of b) (union_over cubes_of xs) (union_over cubes_of ys) f.cubes g.cubes x (cubes x k));
  assigns = λ m k. subst (Member m) (sym (union-append assigns_of xs ys)) (elim (SetLemmas.Member-append_cases (assigns_of a) (assigns_of b) m (assigns m k)) [
    | inl old ↦ SetLemmas.Member-append_left (union_over assigns_of xs) (union_over assigns_of ys) m (f.assigns m old)
    | inr new ↦ SetLemmas.Member-append_right (union_over assigns_of xs) (union_over assigns_of ys) m (g.assigns m new)
  ]);
}

-- of the parts of two halves
pub sum-halves : (n : ℕ) (parts xs ys : List Classifier) (a b c : Classifier) → xs ≡ take n parts → ys ≡ drop n parts → IsSum xs a → IsSum ys b
    → ((h : Headers) (l : Loc) → SameMembers (meaning c h l) (meaning a h l ++ meaning b h l))
    → ((x : Cube) → Member x (cubes_of c) → IsMeet (cubes_of a ++ cubes_of b) x)
    → ((m : Assign) → Member m (assigns_of c) → Member m (assigns_of a ++ assigns_of b)) → IsSum parts c
sum-halves n parts xs ys a b c front back f g means cubes assigns =
    subst (λ zs. IsSum zs c) (ap (λ zs. zs ++ ys) front ∙ ap (λ zs. take n parts ++ zs) back ∙ take-append-drop n parts) (sum-both xs ys a b c f g means cubes assigns)
