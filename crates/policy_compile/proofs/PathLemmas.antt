-- What the paths of a policy make within a cube, part by part.
use Rattle.std.proofs.Common.{◌≡◌, ◌↔◌, ℕ, Bool, true, false, not, ◌&&◌, ◌||◌, cond, Option, Some, None, List, [], ◌∷◌, ◌++◌, map, append_assoc, refl, inl, inr, sym, ap, ◌∙◌, subst}
use Rattle.net_types.specs.declared.address.Pid.{Pid}
use Rattle.net_types.specs.declared.cube.Cube.{Cube}
use Rattle.net_types.specs.declared.headers.Headers.{Headers}
use Rattle.net_types.specs.declared.headers.Loc.{Loc}
use Rattle.net_types.specs.declared.headers.Loc.TheVariants.{Stay, To, Out, Nowhere}
use Rattle.net_types.specs.declared.headers.Assign.{Assign}
use Rattle.net_types.specs.Headers.{apply, arrived, followed_by, no_change}
use Rattle.net_types.specs.Cubes.{has, pull_cube}
use Rattle.net_types.specs.Meets.{behind}
use Rattle.net_types.specs.Sets.{Member, SameMembers, union_over}
use Rattle.net_types.specs.Policies as model
use Rattle.net_types.specs.Policies.{Packet, holds, den, mods, atoms, plain, one_more, pred_atoms, part_atoms, atoms_where_plain, test_cube}
use Rattle.net_types.proofs.SetLemmas
use Rattle.net_types.proofs.CubeLemmas.{has-pull, has-pulled, has_option}
use Rattle.net_types.proofs.MeetLemmas.{behind-Member}
use Rattle.net_types.proofs.PolicyLemmas.{has-test_cube, holds-plain}
use Rattle.classifier.specs.Items.{Item}
use Rattle.classifier.specs.Meaning.{carried, Follows}
use Rattle.classifier.proofs.ResultLemmas.{apply-followed_by}
use Rattle.classifier.proofs.SumLemmas.{union-append}
use Rattle.policy_compile.specs.Paths.{within_found, taken_into, where_plain, pred_at, part_at, Decided, sets_of, AreVisits}
use Rattle.policy_compile.specs.Paths.{after_item}
use Rattle.policy_compile.proofs.AtomLemmas.{pull_found, pull-followed}
use Rattle.policy_compile.proofs.ChainLemmas.{followed-regrouped}

-- ---- predicates

-- a predicate holds in a cube as it does of headers for which its atoms are decided there
record Holds (m : Cube) (set : Assign) (h : Headers) (p : model.Pred) : Type 0 where
  pub whole : Decided m set (pred_atoms p) h → pred_at m set p ≡ holds p (apply set h)
  pub parts : Decided m set (part_atoms p) h → part_at m set p ≡ holds p (apply set h)

decided-left : (m : Cube) (set : Assign) (h : Headers) (xs ys : List Cube) → Decided m set (xs ++ ys) h → Decided m set xs h
decided-left m set h xs ys d a k = d a (SetLemmas.Member-append_left xs ys a k)

decided-right : (m : Cube) (set : Assign) (h : Headers) (xs ys : List Cube) → Decided m set (xs ++ ys) h → Decided m set ys h
decided-right m set h xs ys d a k = d a (SetLemmas.Member-append_right xs ys a k)

and-decided : (m : Cube) (set : Assign) (h : Headers) (p q : model.Pred) → (Decided m set (part_atoms p ++ pred_atoms q) h → (part_at m set p && pred_at m set q) ≡ holds (model.And p q) (apply set h))
    → (o : Option (Option Cube)) → one_more (plain p) q ≡ o → Decided m set (atoms_where_plain o (part_atoms p ++ pred_atoms q)) h → where_plain m set o (part_at m set p && pred_at m set q) ≡ holds (model.And p q) (apply set h)
and-decided m set h p q parts None e d = parts d
and-decided m set h p q parts (Some None) e d = holds-plain (model.And p q) None (apply set h) e
and-decided m set h p q parts (Some (Some c)) e d = d c (inl refl) ∙ holds-plain (model.And p q) (Some c) (apply set h) e

decided : (m : Cube) (set : Assign) (h : Headers) (p : model.Pred) → Holds m set h p
decided m set h model.Yes = record { whole = λ d. refl; parts = λ d. refl }
decided m set h (model.Is test span) = record {
  whole = λ d. d (test_cube test) (inl refl) ∙ has-test_cube test (apply set h);
  parts = λ d. d (test_cube test) (inl refl) ∙ has-test_cube test (apply set h);
}
decided m set h (model.Not p) = let i = decided m set h p in record { whole = λ d. ap not (i.whole d); parts = λ d. ap not (i.whole d) }
decided m set h (model.And p q) =
    let i = decided m set h p in
    let j = decided m set h q in
    let parts : Decided m set (part_atoms p ++ pred_atoms q) h → (part_at m set p && pred_at m set q) ≡ holds (model.And p q) (apply set h) = λ d.
    ap (λ b. b && pred_at m set q) (i.parts (decided-left m set h (part_atoms p) (pred_atoms q) d))
    ∙ ap (λ b. holds p (apply set h) && b) (j.whole (decided-right m set h (part_atoms p) (pred_atoms q) d)) in
    record { whole = λ d. and-decided m set h p q parts (one_more (plain p) q) refl d; parts = parts }
decided m set h (model.Or p q) =
    let i = decided m set h p in
    let j = decided m set h q in
    let either : Decided m set (pred_atoms p ++ pred_atoms q) h → (pred_at m set p || pred_at m set q) ≡ holds (model.Or p q) (apply set h) = λ d.
    ap (λ b. b || pred_at m set q) (i.whole (decided-left m set h (pred_atoms p) (pred_atoms q) d))
    ∙ ap (λ b. holds p (apply set h) || b) (j.whole (decided-right m set h (pred_atoms p) (pred_atoms q) d)) in
    record { whole = either; parts = either }

-- the conjunction's one cube decides, where there is one
pub pred_at-is : (m : Cube) (set : Assign) (p : model.Pred) → where_plain m set (plain p) (part_at m set p) ≡ pred_at m set p
pred_at-is m set model.Yes = refl
pred_at-is m set (model.Is test span) = refl
pred_at-is m set (model.Not p) = refl
pred_at-is m set (model.And p q) = refl
pred_at-is m set (model.Or p q) = refl

-- ---- items made of items

arrived-twice : (l m n : Loc) → arrived l (arrived m n) ≡ arrived (arrived l m) n
arrived-twice l m Stay = refl
arrived-twice l m (To who) = refl
arrived-twice l m (Out port) = refl
arrived-twice l m Nowhere = refl

carried-after : (h : Headers) (l : Loc) (set : Assign) (loc : Loc) (i : Item) → carried h l (after_item set loc i) ≡ (apply set (apply i.0 h), arrived (arrived l i.1) loc)
carried-after h l set loc i =
    ap (λ x. let p : Packet = (x, arrived l (arrived i.1 loc)) in p) (apply-followed_by i.0 set h)
    ∙ ap (λ x. let p : Packet = (apply set (apply i.0 h), x) in p) (arrived-twice l i.1 loc)

-- the same items in another order
pub visits-same : (pid_of : List ℕ → Option Pid) (p : model.Policy) (m : Cube) (items old new others : List Item) → AreVisits pid_of p m items old new → SameMembers others new → AreVisits pid_of p m items old others
visits-same pid_of p m items old new others f same = record {
  means = λ h l d. SetLemmas.same_trans (SetLemmas.same_map (carried h l) same) (f.means h l d);
  assigns = λ a k. f.assigns a ((SetLemmas.same_map (λ (i : Item). i.0) same).onto a k);
}

-- the same, put behind others
pub visits-behind : (pid_of : List ℕ → Option Pid) (p : model.Policy) (m : Cube) (items made old : List Item) → AreVisits pid_of p m items [] made → AreVisits pid_of p m items old (old ++ made)
visits-behind pid_of p m items made old f = record {
  means = λ h l d. SetLemmas.same_trans (SetLemmas.same_eq (SetLemmas.map-append (carried h l) old made))
      (SetLemmas.same_append (SetLemmas.same_refl (map (carried h l) old)) (f.means h l d));
  assigns = λ a k. elim (SetLemmas.Member-append_cases (sets_of old) (sets_of made) a (subst (Member a) (SetLemmas.map-append (λ (i : Item). i.0) old made) k)) [
    | inl known ↦ inl known
    | inr new ↦ elim (f.assigns a new) [ inl none ↦ elim none [ ] | inr w ↦ inr w ]
  ];
}

-- a policy that makes nothing of any packet
pub visits-lost : (pid_of : List ℕ → Option Pid) (p : model.Policy) (m : Cube) (items : List Item) → ((h : Headers) (l : Loc) → den pid_of p h l ≡ []) → AreVisits pid_of p m items [] []
visits-lost pid_of p m items lost = record { means = λ h l d. SetLemmas.same_eq (sym (nothing (map (carried h l) items))); assigns = λ a k. elim k [ ] }
  where
    nothing : (xs : List Packet) → union_over (λ (x : Packet). den pid_of p x.0 x.1) xs ≡ []
    nothing [] = refl
    nothing (x ∷ xs) = ap (λ ys. ys ++ union_over (λ (y : Packet). den pid_of p y.0 y.1) xs) (lost x.0 x.1) ∙ nothing xs

-- a policy that makes one packet of each, by an assignment and a location
pub visits-after : (pid_of : List ℕ → Option Pid) (p : model.Policy) (m : Cube) (items : List Item) (set : Assign) (loc : Loc) → ((h : Headers) (l : Loc) → den pid_of p h l ≡ (apply set h, arrived l loc) ∷ [])
    → mods p ≡ set ∷ [] → (made : List Item) (used : Assign) → used ≡ set → SameMembers made (map (after_item used loc) items) → AreVisits pid_of p m items [] made
visits-after pid_of p m items set loc one sets made used is same =
    visits-same pid_of p m items [] (map (after_item set loc) items) made (record {
      means = λ h l d. SetLemmas.same_eq (each h l items);
      assigns = λ a k.
          let of_one = SetLemmas.map-Member (λ (i : Item). i.0) (map (after_item set loc) items) a k in
          let from = SetLemmas.map-Member (after_item set loc) items of_one.of of_one.stands in
          inr (record {
            before = from.of.0;
            next = set;
            before_stands = SetLemmas.Member-map (λ (i : Item). i.0) items from.of from.stands;
            next_stands = subst (Member set) (sym sets) (inl refl);
            is = of_one.is ∙ ap (λ (i : Item). i.0) from.is;
          });
    }) (subst (λ (a : Assign). SameMembers made (map (after_item a loc) items)) is same)
  where
    each : (h : Headers) (l : Loc) (xs : List Item) → map (carried h l) (map (after_item set loc) xs) ≡ union_over (λ (x : Packet). den pid_of p x.0 x.1) (map (carried h l) xs)
    each h l [] = refl
    each h l (x ∷ xs) = ap (λ (y : Packet). y ∷ map (carried h l) (map (after_item set loc) xs)) (carried-after h l set loc x)
        ∙ ap (λ ys. (apply set (apply x.0 h), arrived (arrived l x.1) loc) ∷ ys) (each h l xs)
        ∙ ap (λ ys. ys ++ union_over (λ (y : Packet). den pid_of p y.0 y.1) (map (carried h l) xs)) (sym (one (apply x.0 h) (arrived l x.1)))

-- a policy that leaves each packet as it is
pub visits-unchanged : (pid_of : List ℕ → Option Pid) (m : Cube) (items : List Item) → AreVisits pid_of model.Pass m items [] items
visits-unchanged pid_of m items = record {
  means = λ h l d. SetLemmas.same_eq (sym (each (map (carried h l) items)));
  assigns = λ a k. inr (record { before = a; next = no_change; before_stands = k; next_stands = inl refl; is = refl });
}
  where
    each : (xs : List Packet) → union_over (λ (x : Packet). den pid_of model.Pass x.0 x.1) xs ≡ xs
    each [] = refl
    each (x ∷ xs) = ap (λ ys. x ∷ ys) (each xs)

-- a test leaves those of the items behind which it holds
pub visits-kept : (pid_of : List ℕ → Option Pid) (p : model.Pred) (m : Cube) (items kept : List Item) → ((i : Item) → Member i kept ↔ (Member i items × (pred_at m i.0 p ≡ true))) → AreVisits pid_of (model.Match p) m items [] kept
visits-kept pid_of p m items kept kept_are = record {
  means = λ h l d. record {
    onto = λ y k.
        let i = SetLemmas.map-Member (carried h l) kept y k in
        let both = (kept_are i.of).0 i.stands in
        let holding : holds p (apply i.of.0 h) ≡ true = sym ((decided m i.of.0 h p).whole (d i.of both.0)) ∙ both.1 in
        SetLemmas.Member-union makes (map (carried h l) items) (carried h l i.of) y (SetLemmas.Member-map (carried h l) items i.of both.0)
        (subst (λ b. Member y (cond b (carried h l i.of ∷ []) [])) (sym holding) (inl i.is));
    back = λ y k.
        let s = SetLemmas.union-Member makes (map (carried h l) items) y k in
        let i = SetLemmas.map-Member (carried h l) items s.of s.stands in
        let known : Member y (makes (carried h l i.of)) = subst (λ x. Member y (makes x)) i.is s.gives in
        let same : pred_at m i.of.0 p ≡ holds p (apply i.of.0 h) = (decided m i.of.0 h p).whole (d i.of i.stands) in
        back_by h l y i.of i.stands (pred_at m i.of.0 p) refl (subst (λ b. Member y (cond b (carried h l i.of ∷ []) [])) (sym same) known);
  };
  assigns = λ a k.
      let i = SetLemmas.map-Member (λ (j : Item). j.0) kept a k in
      inr (record {
        before = i.of.0;
        next = no_change;
        before_stands = SetLemmas.Member-map (λ (j : Item). j.0) items i.of ((kept_are i.of).0 i.stands).0;
        next_stands = inl refl;
        is = i.is;
      });
}
  where
    makes : Packet → List Packet
    makes x = den pid_of (model.Match p) x.0 x.1

    back_by : (h : Headers) (l : Loc) (y : Packet) (i : Item) → Member i items → (b : Bool) → pred_at m i.0 p ≡ b → Member y (cond b (carried h l i ∷ []) []) → Member y (map (carried h l) kept)
    back_by h l y i stands true is (inl e) = subst (λ z. Member z (map (carried h l) kept)) (sym e) (SetLemmas.Member-map (carried h l) kept i ((kept_are i).1 (stands, is)))
    back_by h l y i stands true is (inr none) = elim none [ ]
    back_by h l y i stands false is none = elim none [ ]

-- ---- sums and chains

follows-wider : (firsts ms ns : List Assign) (a : Assign) → ((x : Assign) → Member x ms → Member x ns) → Follows firsts ms a → Follows firsts ns a
follows-wider firsts ms ns a wider f = record { before = f.before; next = f.next; before_stands = f.before_stands; next_stands = wider f.next f.next_stands; is = f.is }

union-both : {A B : Type 0} (f g : A → List B) (xs : List A) → SameMembers (union_over f xs ++ union_over g xs) (union_over (λ x. f x ++ g x) xs)
union-both f g xs = record {
  onto = λ z k. elim (SetLemmas.Member-append_cases (union_over f xs) (union_over g xs) z k) [
    | inl left ↦ let s = SetLemmas.union-Member f xs z left in SetLemmas.Member-union (λ x. f x ++ g x) xs s.of z s.stands (SetLemmas.Member-append_left (f s.of) (g s.of) z s.gives)
    | inr right ↦ let s = SetLemmas.union-Member g xs z right in SetLemmas.Member-union (λ x. f x ++ g x) xs s.of z s.stands (SetLemmas.Member-append_right (f s.of) (g s.of) z s.gives)
  ];
  back = λ z k.
      let s = SetLemmas.union-Member (λ x. f x ++ g x) xs z k in
      elim (SetLemmas.Member-append_cases (f s.of) (g s.of) z s.gives) [
        | inl left ↦ SetLemmas.Member-append_left (union_over f xs) (union_over g xs) z (SetLemmas.Member-union f xs s.of z s.stands left)
        | inr right ↦ SetLemmas.Member-append_right (union_over f xs) (union_over g xs) z (SetLemmas.Member-union g xs s.of z s.stands right)
      ];
}

pub visits-both : (pid_of : List ℕ → Option Pid) (p q : model.Policy) (m : Cube) (items old mid new : List Item) → AreVisits pid_of p m items old mid → AreVisits pid_of q m items mid new → AreVisits pid_of (model.Both p q) m items old new
visits-both pid_of p q m items old mid new f g = record {
  means = λ h l d.
      let xs = map (carried h l) items in
      let left = λ (x : Packet). den pid_of p x.0 x.1 in
      let right = λ (x : Packet). den pid_of q x.0 x.1 in
      SetLemmas.same_trans (g.means h l (λ i k. decided-right m i.0 h (atoms p) (atoms q) (d i k)))
      (SetLemmas.same_trans (SetLemmas.same_append (f.means h l (λ i k. decided-left m i.0 h (atoms p) (atoms q) (d i k))) (SetLemmas.same_refl (union_over right xs)))
      (SetLemmas.same_trans (SetLemmas.same_eq (append_assoc (map (carried h l) old) (union_over left xs) (union_over right xs)))
      (SetLemmas.same_append (SetLemmas.same_refl (map (carried h l) old)) (union-both left right xs))));
  assigns = λ a k. elim (g.assigns a k) [
    | inl before ↦ elim (f.assigns a before) [
      | inl known ↦ inl known
      | inr w ↦ inr (follows-wider (sets_of items) (mods p) (mods p ++ mods q) a (SetLemmas.Member-append_left (mods p) (mods q)) w)
    ]
    | inr w ↦ inr (follows-wider (sets_of items) (mods q) (mods p ++ mods q) a (SetLemmas.Member-append_right (mods p) (mods q)) w)
  ];
}

-- the atoms of the second part of a chain are decided behind each assignment of the first
taken-behind : (m : Cube) (first next : Assign) (cubes : List Cube) (h : Headers) (a : Cube) → Decided m first cubes h → ((b : Cube) → pull_cube a next ≡ Some b → Member b cubes)
    → (o : Option Cube) → pull_cube a next ≡ o → taken_into m (followed_by first next) (Some a) ≡ has a (apply (followed_by first next) h)
taken-behind m first next cubes h a d stands None e =
    ap (within_found m) (sym (pull-followed a first next) ∙ ap (λ o. pull_found o first) e)
    ∙ sym (ap (has a) (apply-followed_by first next h) ∙ sym (has-pull a next (apply first h)) ∙ ap (λ o. has_option o (apply first h)) e)
taken-behind m first next cubes h a d stands (Some b) e =
    ap (within_found m) (sym (pull-followed a first next) ∙ ap (λ o. pull_found o first) e)
    ∙ d b (stands b e) ∙ has-pulled a b next (apply first h) e ∙ ap (has a) (sym (apply-followed_by first next h))

decided-behind : (m : Cube) (first next : Assign) (p q : model.Policy) (h : Headers) → Member next (mods p) → Decided m first (atoms (model.Then p q)) h → Decided m (followed_by first next) (atoms q) h
decided-behind m first next p q h stands d a k =
    taken-behind m first next (behind (mods p) (atoms q)) h a (decided-right m first h (atoms p) (behind (mods p) (atoms q)) d)
    (λ b e. behind-Member (mods p) (atoms q) next a b stands k e) (pull_cube a next) refl

union-twice : {A B C : Type 0} (f : B → List C) (g : A → List B) (xs : List A) → union_over f (union_over g xs) ≡ union_over (λ x. union_over f (g x)) xs
union-twice f g [] = refl
union-twice f g (x ∷ xs) = union-append f (g x) (union_over g xs) ∙ ap (λ ys. union_over f (g x) ++ ys) (union-twice f g xs)

pub visits-then : (pid_of : List ℕ → Option Pid) (p q : model.Policy) (m : Cube) (items between old new : List Item) → AreVisits pid_of p m items [] between → AreVisits pid_of q m between old new → AreVisits pid_of (model.Then p q) m items old new
visits-then pid_of p q m items between old new f g = record {
  means = λ h l d.
      let makes = λ (y : Packet). den pid_of q y.0 y.1 in
      let firsts = λ (y : Packet). den pid_of p y.0 y.1 in
      let xs = map (carried h l) items in
      SetLemmas.same_trans (g.means h l (each h d))
      (SetLemmas.same_append (SetLemmas.same_refl (map (carried h l) old))
      (SetLemmas.same_trans (SetLemmas.same_union makes makes (f.means h l (λ i k. decided-left m i.0 h (atoms p) (behind (mods p) (atoms q)) (d i k))) (λ y. SetLemmas.same_refl (makes y)))
      (SetLemmas.same_eq (union-twice makes firsts xs))));
  assigns = λ a k. elim (g.assigns a k) [
    | inl before ↦ inl before
    | inr w ↦ inr (chained a w)
  ];
}
  where
    from_first : (a : Assign) → Member a (sets_of between) → Follows (sets_of items) (mods p) a
    from_first a k = elim (f.assigns a k) [ inl none ↦ elim none [ ] | inr w ↦ w ]

    each : (h : Headers) → ((i : Item) → Member i items → Decided m i.0 (atoms (model.Then p q)) h) → (i : Item) → Member i between → Decided m i.0 (atoms q) h
    each h d i k =
        let w = from_first i.0 (SetLemmas.Member-map (λ (j : Item). j.0) between i k) in
        let first = SetLemmas.map-Member (λ (j : Item). j.0) items w.before w.before_stands in
        let is : i.0 ≡ followed_by first.of.0 w.next = w.is ∙ ap (λ b. followed_by b w.next) first.is in
        subst (λ set. Decided m set (atoms q) h) (sym is) (decided-behind m first.of.0 w.next p q h w.next_stands (d first.of first.stands))

    chained : (a : Assign) → Follows (sets_of between) (mods q) a → Follows (sets_of items) (mods (model.Then p q)) a
    chained a w =
        let v = from_first w.before w.before_stands in
        record {
          before = v.before;
          next = followed_by v.next w.next;
          before_stands = v.before_stands;
          next_stands = SetLemmas.Member-union (λ x. map (λ y. followed_by x y) (mods q)) (mods p) v.next (followed_by v.next w.next) v.next_stands
              (SetLemmas.Member-map (λ y. followed_by v.next y) (mods q) w.next w.next_stands);
          is = w.is ∙ ap (λ b. followed_by b w.next) v.is ∙ sym (followed-regrouped v.before v.next w.next);
        }
