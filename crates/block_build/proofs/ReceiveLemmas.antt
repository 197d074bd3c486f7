-- How results leave that leave apart: one by one.
use Rattle.std.proofs.Common.{◌≡◌, Option, Some, None, List, [], ◌∷◌, ◌++◌, append_assoc, refl, inl, inr, sym, ap, ◌∙◌, subst}
use Rattle.std.proofs.lemmas.List.{append-nil}
use Rattle.net_types.proofs.SetLemmas
use Rattle.net_types.specs.Sets.{HasNoRepeats, Member}
use Rattle.net_types.specs.declared.address.PortNo.{PortNo}
use Rattle.net_types.specs.declared.headers.Assign.{Assign}
use Rattle.net_types.specs.declared.headers.Loc.{Loc}
use Rattle.net_types.specs.declared.headers.Loc.TheVariants.{Stay, To, Out, Nowhere}
use Rattle.classifier.proofs.UnionLemmas.{beside_none, joined-HasNoRepeats, left-new, put-new}
use Rattle.classifier.specs.Items.{AreNew, Item, add, add_all}
use Rattle.block_build.specs.Receivers.{AreApart, add_exit, add_exits, exit_at, exit_of, exits_in, received_items}

-- each item leaves beside those before it
one_leaves : (hop : PortNo) (kept : List Item) (set : Assign) (items : List Item) → ((ks : List Item) → add_exits hop ks items ≡ add_all ks (exits_in hop items))
    → (exit : Option PortNo) → add_exits hop (add_exit kept set exit) items ≡ add_all kept (exit_at set exit ++ exits_in hop items)
one_leaves hop kept set items rest None = rest kept
one_leaves hop kept set items rest (Some port) = rest (add kept (set, Out port))

each_leaves : (hop : PortNo) (kept items : List Item) → add_exits hop kept items ≡ add_all kept (exits_in hop items)
each_leaves hop kept [] = refl
each_leaves hop kept (i ∷ items) = one_leaves hop kept i.0 items (λ ks. each_leaves hop ks items) (exit_of hop i.1)

-- the locations by which items leave are one where the exits are, but for one that stays
same_place : (hop port : PortNo) (a b : Loc) → exit_of hop a ≡ Some port → exit_of hop b ≡ Some port → (a ≡ Stay → b ≡ Out hop → ⊥) → (b ≡ Stay → a ≡ Out hop → ⊥) → a ≡ b
same_place hop port Stay Stay p q one other = refl
same_place hop port Stay (To who) p q one other = cc
same_place hop port Stay (Out to) p q one other = absurd (one refl cc)
same_place hop port Stay Nowhere p q one other = cc
same_place hop port (To who) b p q one other = cc
same_place hop port (Out to) Stay p q one other = absurd (other refl cc)
same_place hop port (Out to) (To who) p q one other = cc
same_place hop port (Out to) (Out at) p q one other = cc
same_place hop port (Out to) Nowhere p q one other = cc
same_place hop port Nowhere b p q one other = cc

-- what leaves by a port sets what was set, and goes by that port
given : (set : Assign) (exit : Option PortNo) (to : Assign) (port : PortNo) → Member (to, Out port) (exit_at set exit) → (to ≡ set) × (exit ≡ Some port)
given set None to port k = elim k [ ]
given set (Some at) to port (inl e) = let ports : Out port ≡ Out at = ap (λ (p : Item). p.1) e in (ap (λ (p : Item). p.0) e, cc)
given set (Some at) to port (inr k) = elim k [ ]

-- where the items are apart, what leaves by a port is what leaves once
pub exits-once : (hop : PortNo) (items : List Item) → HasNoRepeats items → AreApart hop items → HasNoRepeats (exits_in hop items)
exits-once hop [] d apart = tt
exits-once hop (i ∷ items) d apart = by (exits-once hop items d.1 (λ a b k l. apart a b (inr k) (inr l))) (exit_of hop i.1) refl
  where
    fresh : (port : PortNo) → exit_of hop i.1 ≡ Some port → Member (i.0, Out port) (exits_in hop items) → ⊥
    fresh port leaves k =
        let s = SetLemmas.union-Member (λ (j : Item). exit_at j.0 (exit_of hop j.1)) items (i.0, Out port) k in
        let g = given s.of.0 (exit_of hop s.of.1) i.0 port s.gives in
        let alike : i.1 ≡ s.of.1 =
        same_place hop port i.1 s.of.1 leaves g.1 (apart i s.of (inl refl) (inr s.stands)) (apart s.of i (inr s.stands) (inl refl)) in
        let same : i ≡ s.of = ap (λ x. let p : Item = (x, i.1) in p) g.0 ∙ ap (λ x. let p : Item = (s.of.0, x) in p) alike in
        d.0 (subst (λ x. Member x items) (sym same) s.stands)

    by : HasNoRepeats (exits_in hop items) → (exit : Option PortNo) → exit_of hop i.1 ≡ exit → HasNoRepeats (exit_at i.0 exit ++ exits_in hop items)
    by rest None leaves = rest
    by rest (Some port) leaves = (fresh port leaves, rest)

-- where the items are apart, each leaves by itself
pub add_exits-apart : (hop : PortNo) (items : List Item) → HasNoRepeats items → AreApart hop items → add_exits hop [] items ≡ exits_in hop items
add_exits-apart hop items d apart = each_leaves hop [] items ∙ sym (beside_none [] (exits_in hop items) refl (exits-once hop items d apart))

-- once nothing is left, these are all
pub all_left : (hop : PortNo) (pairs left whole : List Item) → left ≡ [] → pairs ++ exits_in hop left ≡ whole → pairs ≡ whole
all_left hop pairs left whole none made = sym (append-nil pairs) ∙ ap (λ zs. pairs ++ exits_in hop zs) (sym none) ∙ made

-- how items leave is there once
pub added-once : (hop : PortNo) (items : List Item) → HasNoRepeats (add_exits hop [] items)
added-once hop items = joined-HasNoRepeats (add_exits hop [] items) [] (exits_in hop items) tt (each_leaves hop [] items)

pub received-once : (hop : PortNo) (items : List Item) → HasNoRepeats (received_items hop items)
received-once hop [] = ((λ k. elim k [ ]), tt)
received-once hop (i ∷ items) = added-once hop (i ∷ items)

-- where there are items, they leave
pub received-some : (hop : PortNo) (items : List Item) → (items ≡ [] → ⊥) → received_items hop items ≡ add_exits hop [] items
received-some hop [] some = absurd (some refl)
received-some hop (i ∷ items) some = refl

-- what is new and once there is put last as it is
pub all-new : (xs ys : List Item) → HasNoRepeats ys → AreNew xs ys → add_all xs ys ≡ xs ++ ys
all-new xs [] once new = sym (append-nil xs)
all-new xs (y ∷ ys) once new = sym (put-new xs ys y new) ∙ all-new (xs ++ y ∷ []) ys once.1 (left-new xs ys y once new) ∙ append_assoc xs (y ∷ []) ys
