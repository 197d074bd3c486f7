-- The rules of cells, each with what the policy makes there, do what the policy does.
use Rattle.std.proofs.Common.{◌≡◌, ℕ, true, cond, Option, Some, unwrap_or, List, [], ◌∷◌, ◌++◌, map, refl, inl, inr, sym, ap, ◌∙◌, subst, append-nil}
use Rattle.std.proofs.lemmas.Bool.{cases_Bool, false≢true, false_from_ne_true}
use Rattle.net_types.specs.declared.address.Pid.{Pid}
use Rattle.net_types.specs.declared.cube.Cube.{Cube}
use Rattle.net_types.specs.declared.headers.Headers.{Headers}
use Rattle.net_types.specs.declared.headers.Loc.{Loc}
use Rattle.net_types.specs.declared.headers.Assign.{Assign}
use Rattle.net_types.specs.Headers.{followed_by, no_change}
use Rattle.net_types.specs.Cubes.{has, everything, lies_within_cube}
use Rattle.net_types.specs.Meets.{IsMeet}
use Rattle.net_types.specs.Sets.{Member, SameMembers}
use Rattle.net_types.specs.Policies as model
use Rattle.net_types.specs.Policies.{den, mods, atoms}
use Rattle.net_types.proofs.SetLemmas
use Rattle.net_types.proofs.CubeLemmas.{has-everything, has-within}
use Rattle.net_types.proofs.MeetLemmas.{IsMeet-everything, IsMeet-member, IsMeet-wider}
use Rattle.classifier.specs.declared.classifier.Classifier.{Classifier}
use Rattle.classifier.specs.declared.line.Line.{Line}
use Rattle.classifier.specs.Lines.{add_lines}
use Rattle.classifier.specs.Meaning.{carried, cubes_of, decide}
use Rattle.classifier.specs.Classifiers.{lines_of, meaning}
use Rattle.classifier.specs.Compiled.{IsCompiled}
use Rattle.classifier.proofs.DecideLemmas.{decide-add_lines, or_none}
use Rattle.classifier.proofs.LineLemmas.{EachLine, each-add_lines}
use Rattle.cells.specs.Cells.{first_of, AreCells}
use Rattle.classifier.specs.Items.{Item}
use Rattle.policy_compile.specs.Paths.{taken_into, within_found, Decided, sets_of, AreAt}
use Rattle.classifier.proofs.CompileLemmas.{pull-no_change}

-- ---- the rule that decides

record Chosen (xs : List Line) (h : Headers) : Type 0 where
  pub line : Line
  pub stands : Member line xs
  pub is : decide xs h ≡ Some line.results
  pub cube : line.cube ≡ first_of (cubes_of xs) h

chosen : (xs : List Line) (h : Headers) → Member everything (cubes_of xs) → Chosen xs h
chosen [] h k = elim k [ ]
chosen (x ∷ xs) h k = elim (cases_Bool (has x.cube h)) [
  | inl here ↦ record {
    line = x;
    stands = inl refl;
    is = ap (λ b. cond b (Some x.results) (decide xs h)) here;
    cube = sym (ap (λ b. cond b x.cube (first_of (cubes_of xs) h)) here);
  }
  | inr away ↦ elim k [
    | inl e ↦ absurd (false≢true (sym away ∙ ap (λ c. has c h) (sym e) ∙ has-everything h))
    | inr later ↦
        let next = chosen xs h later in
        record {
          line = next.line;
          stands = inr next.stands;
          is = ap (λ b. cond b (Some x.results) (decide xs h)) away ∙ next.is;
          cube = next.cube ∙ sym (ap (λ b. cond b x.cube (first_of (cubes_of xs) h)) away);
        }
  ]
]

first-closed : (cubes : List Cube) (h : Headers) → first_of (cubes ++ everything ∷ []) h ≡ first_of cubes h
first-closed [] h = ap (λ b. cond b everything everything) (has-everything h)
first-closed (c ∷ cs) h = ap (λ d. cond (has c h) c d) (first-closed cs h)

first-has : (cubes : List Cube) (h : Headers) → has (first_of cubes h) h ≡ true
first-has [] h = has-everything h
first-has (c ∷ cs) h = elim (cases_Bool (has c h)) [
  | inl here ↦ ap (λ b. has (cond b c (first_of cs h)) h) here ∙ here
  | inr away ↦ ap (λ b. has (cond b c (first_of cs h)) h) away ∙ first-has cs h
]

-- in its cube each atom is decided
cell-decides : (all : List Cube) (cubes : List Cube) (h : Headers) → AreCells all cubes → (a : Cube) → Member a all → taken_into (first_of cubes h) no_change (Some a) ≡ has a h
cell-decides all cubes h f a k = ap (within_found (first_of cubes h)) (pull-no_change a) ∙ elim (cases_Bool (has a h)) [
  | inl t ↦ f.narrow h a k t ∙ sym t
  | inr away ↦ false_from_ne_true (lies_within_cube (first_of cubes h) a) (λ w. false≢true (sym away ∙ has-within (first_of cubes h) a h w (first-has cubes h))) ∙ sym away
]

-- ---- the classifier

begun-next : (m next : Assign) → m ≡ followed_by no_change next → m ≡ next
begun-next m next e = e ∙ none_first next
  where
    none_first : (n : Assign) → followed_by no_change n ≡ n
    none_first n = let src = or_none n.src in let dst = or_none n.dst in let sport = or_none n.sport in let dport = or_none n.dport in rw (src, dst, sport, dport) refl

module _ (pid_of : List ℕ → Option Pid) (p : model.Policy) (all cubes : List Cube) (xs : List Line) (c : Classifier) (same : SameMembers all (atoms p)) (cells : AreCells all cubes) (at : AreAt pid_of p (cubes ++ everything ∷ []) xs) (made : lines_of c ≡ add_lines [] xs) where
  each-line : (P : Line → Type 0) → EachLine P xs → EachLine P (lines_of c)
  each-line P f = subst (λ ys. EachLine P ys) (sym made) (each-add_lines P [] xs (λ z h. elim h [ ]) f)

  means : (h : Headers) (l : Loc) → SameMembers (meaning c h l) (den pid_of p h l)
  means h l =
      let closed : Member everything (cubes_of xs) = subst (Member everything) (sym at.cubes_are) (SetLemmas.Member-append_right cubes (everything ∷ []) everything (inl refl)) in
      let rule = chosen xs h closed in
      let cube : rule.line.cube ≡ first_of cubes h = rule.cube ∙ ap (λ ks. first_of ks h) at.cubes_are ∙ first-closed cubes h in
      let decided : Decided rule.line.cube no_change (atoms p) h = λ a k. ap (λ m. taken_into m no_change (Some a)) cube ∙ cell-decides all cubes h cells a (same.back a k) in
      let gives : decide (lines_of c) h ≡ Some rule.line.results = ap (λ ys. decide ys h) made ∙ decide-add_lines [] xs h ∙ rule.is in
      SetLemmas.same_trans (SetLemmas.same_eq (ap (λ o. map (carried h l) (unwrap_or o [])) gives)) (SetLemmas.same_trans ((at.gives rule.line rule.stands).means h l (λ i k. elim k [ inl e ↦ subst (λ (j : Item). Decided rule.line.cube j.0 (atoms p) h) (sym e) decided | inr none ↦ elim none [ ] ]))
      (SetLemmas.same_eq (append-nil (den pid_of p h l))))

  is-meet : (x : Line) → Member x xs → IsMeet (atoms p) x.cube
  is-meet x k = elim (SetLemmas.Member-append_cases cubes (everything ∷ []) x.cube (subst (Member x.cube) at.cubes_are (SetLemmas.Member-map (λ (y : Line). y.cube) xs x k))) [
    | inl cell ↦ IsMeet-wider all (atoms p) (λ a m. IsMeet-member (atoms p) a (same.onto a m)) x.cube (cells.meets x.cube cell)
    | inr last ↦ elim last [ inl e ↦ subst (IsMeet (atoms p)) (sym e) (IsMeet-everything (atoms p)) | inr none ↦ elim none [ ] ]
  ]

  among : (x : Line) → Member x xs → (m : Assign) → Member m (sets_of x.results) → Member m (mods p)
  among x k m s = elim ((at.gives x k).assigns m s) [
    | inl none ↦ elim none [ ]
    | inr w ↦ subst (λ n. Member n (mods p)) (sym (begun-next m w.next (w.is ∙ ap (λ b. followed_by b w.next) (elim w.before_stands [ inl e ↦ e | inr none ↦ elim none [ ] ])))) w.next_stands
  ]

  pub compiled-at : IsCompiled pid_of p c
  compiled-at = record {
    means = means;
    cubes = λ x k.
        let i = SetLemmas.map-Member (λ (y : Line). y.cube) (lines_of c) x k in
        subst (IsMeet (atoms p)) (sym i.is) (each-line (λ y. IsMeet (atoms p) y.cube) is-meet i.of i.stands);
    assigns = λ m k.
        let s = SetLemmas.union-Member (λ (y : Line). sets_of y.results) (lines_of c) m k in
        each-line (λ y. (n : Assign) → Member n (sets_of y.results) → Member n (mods p)) among s.of s.stands m s.gives;
  }
