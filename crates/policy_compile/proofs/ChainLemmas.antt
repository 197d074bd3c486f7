-- Chains whose brackets stand otherwise.
use Rattle.std.proofs.Common.{◌≡◌, ℕ, Option, List, [], ◌∷◌, ◌++◌, map, refl, inl, inr, sym, ap, ◌∙◌, subst}
use Rattle.std.proofs.lemmas.List.{append-nil}
use Rattle.net_types.specs.declared.address.Pid.{Pid}
use Rattle.net_types.specs.declared.cube.Cube.{Cube}
use Rattle.net_types.specs.declared.headers.Assign.{Assign}
use Rattle.net_types.specs.Headers.{followed_by, no_change}
use Rattle.net_types.specs.Meets.{behind}
use Rattle.net_types.specs.Sets.{Member, union_over}
use Rattle.net_types.specs.Policies as model
use Rattle.net_types.specs.Policies.{Packet, den, mods, atoms}
use Rattle.net_types.proofs.SetLemmas
use Rattle.net_types.proofs.MeetLemmas.{IsMeet-wider, IsMeet-member, Member-behind, behind-Member}
use Rattle.classifier.specs.declared.classifier.Classifier.{Classifier}
use Rattle.classifier.specs.Classifiers.{lines_of}
use Rattle.classifier.specs.Meaning as lines
use Rattle.classifier.specs.Compiled.{IsCompiled}
use Rattle.classifier.proofs.CompileLemmas.{pull-no_change}
use Rattle.classifier.proofs.SumLemmas.{union-append}
use Rattle.policy_compile.proofs.AtomLemmas.{behind-onto}
use Rattle.classifier.proofs.DecideLemmas.{or_assoc, or_none}

-- what a function gives of each of what another gives
union-union : {A B C : Type 0} (f : B → List C) (g : A → List B) (xs : List A) → union_over (λ x. union_over f (g x)) xs ≡ union_over f (union_over g xs)
union-union f g [] = refl
union-union f g (x ∷ xs) = ap (λ zs. union_over f (g x) ++ zs) (union-union f g xs) ∙ sym (union-append f (g x) (union_over g xs))

-- three assignments, one after another
pub followed-regrouped : (first second third : Assign) → followed_by first (followed_by second third) ≡ followed_by (followed_by first second) third
followed-regrouped a b c =
    let src = or_assoc c.src b.src a.src in
    let dst = or_assoc c.dst b.dst a.dst in
    let sport = or_assoc c.sport b.sport a.sport in
    let dport = or_assoc c.dport b.dport a.dport in
    rw (src, dst, sport, dport) refl

-- the assignments of a chain
abbrev pub in_turn : List Assign → List Assign → List Assign
in_turn firsts nexts = union_over (λ first. map (λ next. followed_by first next) nexts) firsts

-- a member of them, with the two that it is made of
record InTurn (firsts nexts : List Assign) (m : Assign) : Type 0 where
  pub first : Assign
  pub next : Assign
  pub first_stands : Member first firsts
  pub next_stands : Member next nexts
  pub is : m ≡ followed_by first next

turn-from : (firsts nexts : List Assign) (m : Assign) → Member m (in_turn firsts nexts) → InTurn firsts nexts m
turn-from firsts nexts m k =
    let s = SetLemmas.union-Member (λ first. map (λ next. followed_by first next) nexts) firsts m k in
    let i = SetLemmas.map-Member (λ next. followed_by s.of next) nexts m s.gives in
    record { first = s.of; next = i.of; first_stands = s.stands; next_stands = i.stands; is = i.is }

turn-to : (firsts nexts : List Assign) (first next : Assign) → Member first firsts → Member next nexts → Member (followed_by first next) (in_turn firsts nexts)
turn-to firsts nexts first next h k =
    SetLemmas.Member-union (λ a. map (λ b. followed_by a b) nexts) firsts first (followed_by first next) h (SetLemmas.Member-map (λ b. followed_by first b) nexts next k)

mods-regrouped : (ps qs rs : List Assign) (m : Assign) → Member m (in_turn ps (in_turn qs rs)) → Member m (in_turn (in_turn ps qs) rs)
mods-regrouped ps qs rs m k =
    let s = turn-from ps (in_turn qs rs) m k in
    let u = turn-from qs rs s.next s.next_stands in
    let e : m ≡ followed_by (followed_by s.first u.first) u.next = s.is ∙ ap (followed_by s.first) u.is ∙ followed-regrouped s.first u.first u.next in
    subst (λ n. Member n (in_turn (in_turn ps qs) rs)) (sym e)
    (turn-to (in_turn ps qs) rs (followed_by s.first u.first) u.next (turn-to ps qs s.first u.first s.first_stands u.first_stands) u.next_stands)

atoms-regrouped : (p q r : model.Policy) (a : Cube) → Member a (atoms (model.Then p (model.Then q r))) → Member a (atoms (model.Then (model.Then p q) r))
atoms-regrouped p q r a k =
    let near = behind (mods q) (atoms r) in
    let left = atoms (model.Then p q) in
    let right = behind (mods (model.Then p q)) (atoms r) in
    elim (SetLemmas.Member-append_cases (atoms p) (behind (mods p) (atoms q ++ near)) a k) [
      | inl first ↦ SetLemmas.Member-append_left left right a (SetLemmas.Member-append_left (atoms p) (behind (mods p) (atoms q)) a first)
      | inr later ↦
          let s = Member-behind (mods p) (atoms q ++ near) a later in
          elim (SetLemmas.Member-append_cases (atoms q) near s.cube s.cube_stands) [
            | inl second ↦ SetLemmas.Member-append_left left right a (SetLemmas.Member-append_right (atoms p) (behind (mods p) (atoms q)) a
                (behind-Member (mods p) (atoms q) s.set s.cube a s.set_stands second s.is))
            | inr third ↦ SetLemmas.Member-append_right left right a
                (behind-onto (mods p) (mods q) (atoms r) near (SetLemmas.same_refl near) a (behind-Member (mods p) near s.set s.cube a s.set_stands third s.is))
          ]
    ]

-- a chain of three, the last two of which are compiled first
pub compiled-regrouped : (pid_of : List ℕ → Option Pid) (p q r : model.Policy) (c : Classifier) → IsCompiled pid_of (model.Then p (model.Then q r)) c → IsCompiled pid_of (model.Then (model.Then p q) r) c
compiled-regrouped pid_of p q r c f = record {
  means = λ h l. SetLemmas.same_trans (f.means h l)
      (SetLemmas.same_eq (union-union (λ (x : Packet). den pid_of r x.0 x.1) (λ (x : Packet). den pid_of q x.0 x.1) (den pid_of p h l)));
  cubes = λ x k. IsMeet-wider (atoms (model.Then p (model.Then q r))) (atoms (model.Then (model.Then p q) r))
      (λ a m. IsMeet-member (atoms (model.Then (model.Then p q) r)) a (atoms-regrouped p q r a m)) x (f.cubes x k);
  assigns = λ m k. mods-regrouped (mods p) (mods q) (mods r) m (f.assigns m k);
}

-- nothing, and then an assignment
followed-none : (m : Assign) → followed_by no_change m ≡ m
followed-none m =
    let src = or_none m.src in
    let dst = or_none m.dst in
    let sport = or_none m.sport in
    let dport = or_none m.dport in
    rw (src, dst, sport, dport) refl

-- a policy behind the packet as it is, by the same rules
pub compiled-passed : (pid_of : List ℕ → Option Pid) (q : model.Policy) (a c : Classifier) → lines_of c ≡ lines_of a → IsCompiled pid_of q a → IsCompiled pid_of (model.Then model.Pass q) c
compiled-passed pid_of q a c e f =
    let before = no_change ∷ [] in
    record {
      means = λ h l. SetLemmas.same_trans (SetLemmas.same_eq (ap (λ xs. lines.meaning xs h l) e)) (SetLemmas.same_trans (f.means h l) (SetLemmas.same_eq (sym (append-nil (den pid_of q h l)))));
      cubes = λ x k. IsMeet-wider (atoms q) (behind before (atoms q))
          (λ d stands. IsMeet-member (behind before (atoms q)) d (behind-Member before (atoms q) no_change d d (inl refl) stands (pull-no_change d)))
          x (f.cubes x (subst (λ xs. Member x (lines.cubes_of xs)) e k));
      assigns = λ m k. subst (λ n. Member n (in_turn before (mods q))) (followed-none m)
          (turn-to before (mods q) no_change m (inl refl) (f.assigns m (subst (λ xs. Member m (lines.assigns_of xs)) e k)));
    }
