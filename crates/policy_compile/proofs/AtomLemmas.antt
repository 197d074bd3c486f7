-- The atoms of policies as sets, and cubes behind the paths of policies.
use Rattle.std.proofs.Common.{◌≡◌, ◌≤◌, arith, length, Option, Some, None, List, [], ◌∷◌, ◌++◌, map, append_assoc, refl, inl, inr, sym, ap, ◌∙◌, subst}
use Rattle.std.specs.Option.{option_to_list}
use Rattle.std.proofs.lemmas.List.{append-nil}
use Rattle.net_types.specs.declared.cube.Cube.{Cube}
use Rattle.net_types.specs.declared.headers.Headers.{Headers}
use Rattle.net_types.specs.declared.headers.Assign.{Assign}
use Rattle.net_types.specs.Headers.{apply, followed_by}
use Rattle.net_types.specs.Cubes.{has, pull_cube}
use Rattle.net_types.specs.Sets.{Member, SameMembers, union_over}
use Rattle.net_types.specs.Meets.{behind, behind_one, meets}
use Rattle.net_types.specs.Policies as model
use Rattle.net_types.specs.Policies.{Policy, Both, Then, mods, atoms}
use Rattle.net_types.specs.Widths.{parts}
use Rattle.net_types.proofs.SetLemmas
use Rattle.net_types.proofs.CubeLemmas.{option_ext, has-pull, has_option}
use Rattle.net_types.proofs.MeetLemmas.{behind-Member, Member-behind}
use Rattle.net_types.proofs.WidthLemmas.{meets-fewer}
use Rattle.classifier.specs.Seen.{cube_eq}
use Rattle.classifier.proofs.ResultLemmas.{apply-followed_by}
use Rattle.policy_compile.specs.Sets.{adds}
use Rattle.policy_compile.specs.Narrow.{HasWideMeets}
use Rattle.policy_compile.proofs.SetsLemmas.{cubes-same}

-- ---- cubes behind the paths of a policy

-- behind one assignment
pub behind-one : (set : Assign) (cubes : List Cube) → SameMembers (adds cube_eq [] (behind_one set cubes)) (behind (set ∷ []) cubes)
behind-one set cubes = SetLemmas.same_trans (cubes-same [] (behind_one set cubes)) (SetLemmas.same_eq (sym (append-nil (behind_one set cubes))))

pub behind-append : (ps qs : List Assign) (cubes : List Cube) → behind (ps ++ qs) cubes ≡ behind ps cubes ++ behind qs cubes
behind-append [] qs cubes = refl
behind-append (p ∷ ps) qs cubes = ap (λ rest. behind_one p cubes ++ rest) (behind-append ps qs cubes) ∙ sym (append_assoc (behind_one p cubes) (behind ps cubes) (behind qs cubes))

-- behind the paths of a sum
pub behind-both : (ps qs : List Assign) (cubes ks ls : List Cube) → SameMembers ks (behind ps cubes) → SameMembers ls (behind qs cubes) → SameMembers (adds cube_eq ks ls) (behind (ps ++ qs) cubes)
behind-both ps qs cubes ks ls f g =
    SetLemmas.same_trans (cubes-same ks ls) (SetLemmas.same_trans (SetLemmas.same_append f g) (SetLemmas.same_eq (sym (behind-append ps qs cubes))))

-- a cube that was found, behind an assignment
abbrev pub pull_found : Option Cube → Assign → Option Cube
pull_found None set = None
pull_found (Some c) set = pull_cube c set

has-pull_found : (o : Option Cube) (set : Assign) (h : Headers) → has_option (pull_found o set) h ≡ has_option o (apply set h)
has-pull_found None set h = refl
has-pull_found (Some c) set h = has-pull c set h

pub pull-followed : (c : Cube) (first next : Assign) → pull_found (pull_cube c next) first ≡ pull_cube c (followed_by first next)
pull-followed c first next =
    option_ext (pull_found (pull_cube c next) first) (pull_cube c (followed_by first next)) (λ h.
    has-pull_found (pull_cube c next) first h ∙ has-pull c next (apply first h)
    ∙ ap (has c) (sym (apply-followed_by first next h)) ∙ sym (has-pull c (followed_by first next) h))

-- behind a chain
pub behind-onto : (ps qs : List Assign) (cubes near : List Cube) → SameMembers near (behind qs cubes) → (d : Cube) → Member d (behind ps near) → Member d (behind (union_over (λ first. map (λ next. followed_by first next) qs) ps) cubes)
behind-onto ps qs cubes near same d k =
    let far = Member-behind ps near d k in
    let close = Member-behind qs cubes far.cube (same.onto far.cube far.cube_stands) in
    behind-Member (union_over (λ first. map (λ next. followed_by first next) qs) ps) cubes (followed_by far.set close.set) close.cube d
    (SetLemmas.Member-union (λ first. map (λ next. followed_by first next) qs) ps far.set (followed_by far.set close.set) far.set_stands (SetLemmas.Member-map (λ next. followed_by far.set next) qs close.set close.set_stands))
    close.cube_stands
    (sym (pull-followed close.cube far.set close.set) ∙ ap (λ o. pull_found o far.set) close.is ∙ far.is)

behind-back : (ps qs : List Assign) (cubes near : List Cube) → SameMembers near (behind qs cubes) → (d : Cube) → Member d (behind (union_over (λ first. map (λ next. followed_by first next) qs) ps) cubes) → Member d (behind ps near)
behind-back ps qs cubes near same d k =
    let whole = Member-behind (union_over (λ first. map (λ next. followed_by first next) qs) ps) cubes d k in
    let s = SetLemmas.union-Member (λ first. map (λ next. followed_by first next) qs) ps whole.set whole.set_stands in
    let i = SetLemmas.map-Member (λ next. followed_by s.of next) qs whole.set s.gives in
    from s.of i.of s.stands i.stands whole.cube whole.cube_stands (pull_cube whole.cube i.of) refl
    (pull-followed whole.cube s.of i.of ∙ ap (pull_cube whole.cube) (sym i.is) ∙ whole.is)
  where
    from : (first next : Assign) → Member first ps → Member next qs → (c : Cube) → Member c cubes → (o : Option Cube) → pull_cube c next ≡ o → pull_found (pull_cube c next) first ≡ Some d → Member d (behind ps near)
    from first next in_ps in_qs c in_cubes None e f = absurd (none_some (sym (ap (λ o. pull_found o first) e) ∙ f))
      where
        none_some : None ≡ Some d → ⊥
        none_some e = cc
    from first next in_ps in_qs c in_cubes (Some x) e f =
        behind-Member ps near first x d in_ps (same.back x (behind-Member qs cubes next c x in_qs in_cubes e)) (sym (ap (λ o. pull_found o first) e) ∙ f)

pub behind-then : (p q : Policy) (cubes near far : List Cube) → SameMembers near (behind (mods q) cubes) → SameMembers far (behind (mods p) near) → SameMembers far (behind (mods (Then p q)) cubes)
behind-then p q cubes near far same f = SetLemmas.same_trans f (record { onto = behind-onto (mods p) (mods q) cubes near same; back = behind-back (mods p) (mods q) cubes near same })

-- cubes behind assignments are those of an equal set
behind-among : (sets : List Assign) (xs ys : List Cube) → ((c : Cube) → Member c xs → Member c ys) → (d : Cube) → Member d (behind sets xs) → Member d (behind sets ys)
behind-among sets xs ys among d k = let b = Member-behind sets xs d k in behind-Member sets ys b.set b.cube d b.set_stands (among b.cube b.cube_stands) b.is

pub behind-same : (sets : List Assign) (xs ys : List Cube) → SameMembers xs ys → SameMembers (behind sets xs) (behind sets ys)
behind-same sets xs ys same = record { onto = behind-among sets xs ys same.onto; back = behind-among sets ys xs same.back }

-- ---- atoms

pub atoms-then : (p q : Policy) (ks ls whole : List Cube) → SameMembers ks (atoms p) → SameMembers ls (atoms q) → SameMembers whole (ks ++ behind (mods p) ls) → SameMembers whole (atoms (Then p q))
atoms-then p q ks ls whole f g same = SetLemmas.same_trans same (SetLemmas.same_append f (behind-same (mods p) ls (atoms q) g))

-- ---- meets of equal sets

pub same_count : (xs ys : List Cube) → SameMembers xs ys → length (meets xs) ≡ length (meets ys)
same_count xs ys same = omega (arith, meets-fewer xs ys same.onto, meets-fewer ys xs same.back)

-- ---- parts that decide

abbrev pub HasParts : Policy → Policy → Policy → Type 0
HasParts w p q = parts w ≡ w ∷ (parts p ++ parts q)

pub wide-left : (w p q : Policy) → HasParts w p q → HasWideMeets p → HasWideMeets w
wide-left w p q e m = record { part = m.part; stands = subst (Member m.part) (sym e) (inr (SetLemmas.Member-append_left (parts p) (parts q) m.part m.stands)); many = m.many }

pub wide-right : (w p q : Policy) → HasParts w p q → HasWideMeets q → HasWideMeets w
wide-right w p q e m = record { part = m.part; stands = subst (Member m.part) (sym e) (inr (SetLemmas.Member-append_right (parts p) (parts q) m.part m.stands)); many = m.many }

-- the meets of a part of a sum, and of the first part of a chain, are among those of the whole
pub meets-left : (xs ys : List Cube) → length (meets xs) ≤ length (meets (xs ++ ys))
meets-left xs ys = meets-fewer xs (xs ++ ys) (SetLemmas.Member-append_left xs ys)

pub meets-right : (xs ys : List Cube) → length (meets ys) ≤ length (meets (xs ++ ys))
meets-right xs ys = meets-fewer ys (xs ++ ys) (SetLemmas.Member-append_right xs ys)

-- a policy is one of its parts
pub itself : (p : model.Policy) → Member p (parts p)
itself model.Drop = inl refl
itself model.Pass = inl refl
itself model.Block = inl refl
itself (model.Fwd target span) = inl refl
itself (model.Match p) = inl refl
itself (model.Set set span) = inl refl
itself (model.Both p q) = inl refl
itself (model.Then p q) = inl refl

-- ---- the atoms of predicates

pred-atoms-is : (p : model.Pred) → model.pred_atoms p ≡ model.atoms_where_plain (model.plain p) (model.part_atoms p)
pred-atoms-is model.Yes = refl
pred-atoms-is (model.Is test span) = refl
pred-atoms-is (model.Not p) = refl
pred-atoms-is (model.And p q) = refl
pred-atoms-is (model.Or p q) = refl

-- one for a conjunction of plain tests
pub atoms-found : (p : model.Pred) (found : Option Cube) → model.plain p ≡ Some found → option_to_list found ≡ model.pred_atoms p
atoms-found p found e = as_list found ∙ ap (λ o. model.atoms_where_plain o (model.part_atoms p)) (sym e) ∙ sym (pred-atoms-is p)
  where
    as_list : (o : Option Cube) → option_to_list o ≡ model.atoms_where_plain (Some o) (model.part_atoms p)
    as_list None = refl
    as_list (Some c) = refl

-- and else those of the parts
pub atoms-apart : (p : model.Pred) → model.plain p ≡ None → model.part_atoms p ≡ model.pred_atoms p
atoms-apart p e = ap (λ o. model.atoms_where_plain o (model.part_atoms p)) (sym e) ∙ sym (pred-atoms-is p)
