-- Sums of many parts, by what is known of each part.
use Rattle.std.proofs.Common.{ℕ, Option, List, [], ◌∷◌, ◌++◌, map, inl, inr, sym, subst}
use Rattle.std.proofs.lemmas.List.{append-nil}
use Rattle.net_types.specs.declared.address.Pid.{Pid}
use Rattle.net_types.specs.declared.cube.Cube.{Cube}
use Rattle.net_types.specs.declared.headers.Assign.{Assign}
use Rattle.net_types.specs.Headers.{followed_by}
use Rattle.net_types.specs.Meets.{behind}
use Rattle.net_types.specs.Sets.{Member, union_over}
use Rattle.net_types.specs.Policies as model
use Rattle.net_types.specs.Policies.{Packet, holds, den, mods, pred_atoms, atoms}
use Rattle.net_types.proofs.SetLemmas
use Rattle.net_types.proofs.MeetLemmas.{IsMeet-wider, IsMeet-member, IsMeet-append_left, IsMeet-append_right}
use Rattle.classifier.specs.declared.classifier.Classifier.{Classifier}
use Rattle.classifier.specs.Classifiers.{meaning, cubes_of, assigns_of}
use Rattle.classifier.specs.Compiled.{Filters, IsCompiled}
use Rattle.classifier.specs.Sums.{IsSum}
use Rattle.classifier.proofs.SumLemmas.{union-append}
use Rattle.classifier.proofs.CompileLemmas.{either_same}
use Rattle.policy_compile.specs.Parts.{AreParts, AreFilters}
use Rattle.policy_compile.proofs.AtomLemmas.{behind-append}

-- a member of one list is a member of what it alone gives
one_back : {A : Type 0} (xs : List A) (x : A) → Member x (xs ++ []) → Member x xs
one_back xs x h = subst (Member x) (append-nil xs) h

-- ---- policies

pub parts-one : (pid_of : List ℕ → Option Pid) (p : model.Policy) (c : Classifier) → IsCompiled pid_of p c → AreParts pid_of p (c ∷ [])
parts-one pid_of p c f = record {
  means = λ h l. SetLemmas.same_trans (SetLemmas.same_eq (append-nil (meaning c h l))) (f.means h l);
  cubes = λ x k. f.cubes x (one_back (cubes_of c) x k);
  assigns = λ m k. f.assigns m (one_back (assigns_of c) m k);
}

pub parts-both : (pid_of : List ℕ → Option Pid) (p q : model.Policy) (xs ys : List Classifier) → AreParts pid_of p xs → AreParts pid_of q ys → AreParts pid_of (model.Both p q) (xs ++ ys)
parts-both pid_of p q xs ys f g = record {
  means = λ h l. SetLemmas.same_trans (SetLemmas.same_eq (union-append (λ (a : Classifier). meaning a h l) xs ys)) (SetLemmas.same_append (f.means h l) (g.means h l));
  cubes = λ x k. elim (SetLemmas.Member-append_cases (union_over cubes_of xs) (union_over cubes_of ys) x (subst (Member x) (union-append cubes_of xs ys) k)) [
    | inl old ↦ IsMeet-append_left (atoms p) (atoms q) x (f.cubes x old)
    | inr new ↦ IsMeet-append_right (atoms p) (atoms q) x (g.cubes x new)
  ];
  assigns = λ m k. elim (SetLemmas.Member-append_cases (union_over assigns_of xs) (union_over assigns_of ys) m (subst (Member m) (union-append assigns_of xs ys) k)) [
    | inl old ↦ SetLemmas.Member-append_left (mods p) (mods q) m (f.assigns m old)
    | inr new ↦ SetLemmas.Member-append_right (mods p) (mods q) m (g.assigns m new)
  ];
}

atoms-spread : (p q r : model.Policy) (a : Cube) → Member a (atoms (model.Both (model.Then p r) (model.Then q r))) → Member a (atoms (model.Then (model.Both p q) r))
atoms-spread p q r a k =
    let near = atoms p ++ atoms q in
    let far = behind (mods p ++ mods q) (atoms r) in
    let left = behind (mods p) (atoms r) in
    let right = behind (mods q) (atoms r) in
    let later : Member a (left ++ right) → Member a (near ++ far) = λ m. SetLemmas.Member-append_right near far a (subst (Member a) (sym (behind-append (mods p) (mods q) (atoms r))) m) in
    elim (SetLemmas.Member-append_cases (atoms (model.Then p r)) (atoms (model.Then q r)) a k) [
      | inl old ↦ elim (SetLemmas.Member-append_cases (atoms p) left a old) [
        | inl m ↦ SetLemmas.Member-append_left near far a (SetLemmas.Member-append_left (atoms p) (atoms q) a m)
        | inr m ↦ later (SetLemmas.Member-append_left left right a m)
      ]
      | inr new ↦ elim (SetLemmas.Member-append_cases (atoms q) right a new) [
        | inl m ↦ SetLemmas.Member-append_left near far a (SetLemmas.Member-append_right (atoms p) (atoms q) a m)
        | inr m ↦ later (SetLemmas.Member-append_right left right a m)
      ]
    ]

-- the parts of a sum, each before the same policy
pub parts-spread : (pid_of : List ℕ → Option Pid) (p q r : model.Policy) (xs ys : List Classifier) → AreParts pid_of (model.Then p r) xs → AreParts pid_of (model.Then q r) ys → AreParts pid_of (model.Then (model.Both p q) r) (xs ++ ys)
parts-spread pid_of p q r xs ys f g =
    let both = parts-both pid_of (model.Then p r) (model.Then q r) xs ys f g in
    record {
      means = λ h l. SetLemmas.same_trans (both.means h l)
          (SetLemmas.same_eq (sym (union-append (λ (x : Packet). den pid_of r x.0 x.1) (den pid_of p h l) (den pid_of q h l))));
      cubes = λ x k. IsMeet-wider (atoms (model.Both (model.Then p r) (model.Then q r))) (atoms (model.Then (model.Both p q) r))
          (λ a m. IsMeet-member (atoms (model.Then (model.Both p q) r)) a (atoms-spread p q r a m)) x (both.cubes x k);
      assigns = λ m k. subst (Member m) (sym (union-append (λ (first : Assign). map (λ next. followed_by first next) (mods r)) (mods p) (mods q))) (both.assigns m k);
    }

pub compiled-parts : (pid_of : List ℕ → Option Pid) (p : model.Policy) (xs : List Classifier) (c : Classifier) → AreParts pid_of p xs → IsSum xs c → IsCompiled pid_of p c
compiled-parts pid_of p xs c f s = record {
  means = λ h l. SetLemmas.same_trans (s.union h l) (f.means h l);
  cubes = λ x k. IsMeet-wider (union_over cubes_of xs) (atoms p) f.cubes x (s.cubes x k);
  assigns = λ m k. f.assigns m (s.assigns m k);
}

-- ---- predicates

pub filters-one : (p : model.Pred) (c : Classifier) → Filters p c → AreFilters p (c ∷ [])
filters-one p c f = record {
  means = λ h l. SetLemmas.same_trans (SetLemmas.same_eq (append-nil (meaning c h l))) (f.means h l);
  cubes = λ x k. f.cubes x (one_back (cubes_of c) x k);
  assigns = λ m k. f.assigns m (one_back (assigns_of c) m k);
}

pub filters-both : (p q : model.Pred) (xs ys : List Classifier) → AreFilters p xs → AreFilters q ys → AreFilters (model.Or p q) (xs ++ ys)
filters-both p q xs ys f g = record {
  means = λ h l. SetLemmas.same_trans (SetLemmas.same_eq (union-append (λ (a : Classifier). meaning a h l) xs ys))
      (SetLemmas.same_trans (SetLemmas.same_append (f.means h l) (g.means h l)) (either_same (holds p h) (holds q h) h l));
  cubes = λ x k. elim (SetLemmas.Member-append_cases (union_over cubes_of xs) (union_over cubes_of ys) x (subst (Member x) (union-append cubes_of xs ys) k)) [
    | inl old ↦ IsMeet-append_left (pred_atoms p) (pred_atoms q) x (f.cubes x old)
    | inr new ↦ IsMeet-append_right (pred_atoms p) (pred_atoms q) x (g.cubes x new)
  ];
  assigns = λ m k. elim (SetLemmas.Member-append_cases (union_over assigns_of xs) (union_over assigns_of ys) m (subst (Member m) (union-append assigns_of xs ys) k)) [
    | inl old ↦ f.assigns m old
    | inr new ↦ g.assigns m new
  ];
}

pub filter-parts : (p : model.Pred) (xs : List Classifier) (c : Classifier) → AreFilters p xs → IsSum xs c → Filters p c
filter-parts p xs c f s = record {
  means = λ h l. SetLemmas.same_trans (s.union h l) (f.means h l);
  cubes = λ x k. IsMeet-wider (union_over cubes_of xs) (pred_atoms p) f.cubes x (s.cubes x k);
  assigns = λ m k. f.assigns m (s.assigns m k);
}
