-- Unions of results.
use Rattle.std.proofs.Common.{◌≡◌, ◌≤◌, ℕ, true, false, cond, drop, if◌then◌else◌, ◌||◌, List, [], ◌∷◌, ◌++◌, append_assoc, refl, inl, inr, length, arith, sym, ap, ◌∙◌, subst}
use Rattle.std.specs.Bool.{Decides}
use Rattle.std.proofs.Math.Bool.{or-false}
use Rattle.std.proofs.lemmas.Bool.{cases_Bool, false≢true}
use Rattle.std.proofs.lemmas.List.{append-nil, drop_all}
use Rattle.net_types.proofs.SetLemmas
use Rattle.net_types.proofs.WidthLemmas.{HasNoRepeats-push}
use Rattle.net_types.specs.Sets.{HasNoRepeats, Member}
use Rattle.classifier.proofs.GatherLemmas.{among-push}
use Rattle.classifier.proofs.ItemLemmas.{among-member, item_exact, item_refl, member-among}
use Rattle.classifier.specs.Items.{AreNew, Item, add, add_all, is_among, same_item}

absent : (ks ys : List Item) (y : Item) → HasNoRepeats (ks ++ y ∷ ys) → Member y ks → ⊥
absent [] ys y d k = elim k [ ]
absent (x ∷ ks) ys y d (inl e) = d.0 (subst (λ z. Member z (ks ++ y ∷ ys)) e (SetLemmas.Member-append_right ks (y ∷ ys) y (inl refl)))
absent (x ∷ ks) ys y d (inr k) = absent ks ys y d.1 k

added_items : (ks xs : List Item) → HasNoRepeats (ks ++ xs) → add_all ks xs ≡ ks ++ xs
added_items ks [] d = sym (append-nil ks)
added_items ks (y ∷ ys) d =
    ap (λ b. add_all (cond b ks (ks ++ y ∷ [])) ys) fresh ∙ added_items (ks ++ y ∷ []) ys (subst HasNoRepeats (sym same) d) ∙ same
  where
    same : (ks ++ y ∷ []) ++ ys ≡ ks ++ y ∷ ys
    same = append_assoc ks (y ∷ []) ys

    fresh : is_among ks y ≡ false
    fresh = elim (cases_Bool (is_among ks y)) [
      | inl there ↦ absurd (absent ks ys y d (among-member ks y there))
      | inr fine ↦ fine
    ]

-- the test of items decides whether they are equal
pub item-decides : (a b : Item) → Decides (same_item a b) (a ≡ b)
item-decides a b = (item_exact a b, λ e. ap (same_item a) (sym e) ∙ item_refl a)

-- beside none, items are as they were
pub beside_none : (others xs : List Item) → others ≡ [] → HasNoRepeats xs → xs ≡ add_all others xs
beside_none others xs none d = sym (ap (λ ks. add_all ks xs) none ∙ added_items [] xs d)

-- ---- a list with what another has besides

-- the items of the second list that the first doesn't have
abbrev pub besides : List Item → List Item → List Item
besides xs [] = []
besides xs (y ∷ ys) = if is_among xs y then besides xs ys else y ∷ besides xs ys

unequal : (y : Item) (ys : List Item) (z : Item) → HasNoRepeats (y ∷ ys) → Member z ys → same_item y z ≡ false
unequal y ys z d k = elim (cases_Bool (same_item y z)) [
  | inl same ↦ absurd (d.0 (subst (λ w. Member w ys) (sym (item_exact y z same)) k))
  | inr fine ↦ fine
]

joined_items : (ks xs ys : List Item) → HasNoRepeats ys → ((y : Item) → Member y ys → is_among ks y ≡ is_among xs y) → add_all ks ys ≡ ks ++ besides xs ys
joined_items ks xs [] d alike = sym (append-nil ks)
joined_items ks xs (y ∷ ys) d alike = elim (cases_Bool (is_among xs y)) [
  | inl there ↦
      ap (λ b. add_all (cond b ks (ks ++ y ∷ [])) ys) (alike y (inl refl) ∙ there)
      ∙ joined_items ks xs ys d.1 (λ z k. alike z (inr k))
      ∙ ap (λ b. ks ++ cond b (besides xs ys) (y ∷ besides xs ys)) (sym there)
  | inr new ↦
      ap (λ b. add_all (cond b ks (ks ++ y ∷ [])) ys) (alike y (inl refl) ∙ new)
      ∙ joined_items (ks ++ y ∷ []) xs ys d.1 (λ z k. among-push ks y z ∙ ap (λ b. is_among ks z || b) (unequal y ys z d k) ∙ or-false (is_among ks z) ∙ alike z (inr k))
      ∙ append_assoc ks (y ∷ []) (besides xs ys)
      ∙ ap (λ b. ks ++ cond b (besides xs ys) (y ∷ besides xs ys)) (sym new)
]

add_all-HasNoRepeats : (xs ys : List Item) → HasNoRepeats xs → HasNoRepeats (add_all xs ys)
add_all-HasNoRepeats xs [] d = d
add_all-HasNoRepeats xs (y ∷ ys) d = add_all-HasNoRepeats (add xs y) ys (elim (cases_Bool (is_among xs y)) [
  | inl there ↦ subst (λ b. HasNoRepeats (cond b xs (xs ++ y ∷ []))) (sym there) d
  | inr new ↦ subst (λ b. HasNoRepeats (cond b xs (xs ++ y ∷ []))) (sym new) (HasNoRepeats-push xs y d (λ k. false≢true (sym new ∙ member-among xs y k)))
])

-- one more item is there already, or comes behind
pub besides_known : (ps xs ys whole : List Item) (y : Item) → ps ++ besides xs (y ∷ ys) ≡ whole → is_among xs y ≡ true → ps ++ besides xs ys ≡ whole
besides_known ps xs ys whole y made there = ap (λ b. ps ++ cond b (besides xs ys) (y ∷ besides xs ys)) (sym there) ∙ made

pub besides_new : (ps xs ys whole : List Item) (y : Item) → ps ++ besides xs (y ∷ ys) ≡ whole → is_among xs y ≡ false → (ps ++ y ∷ []) ++ besides xs ys ≡ whole
besides_new ps xs ys whole y made new = append_assoc ps (y ∷ []) (besides xs ys) ∙ ap (λ b. ps ++ cond b (besides xs ys) (y ∷ besides xs ys)) (sym new) ∙ made

-- once nothing is left, all is joined
pub all_joined : (ps xs ys items : List Item) (at : ℕ) → HasNoRepeats ys → items ≡ ys → length items ≤ at → ps ++ besides xs (drop at ys) ≡ xs ++ besides xs ys → ps ≡ add_all xs ys
all_joined ps xs ys items at d same ended made =
    let none : drop at ys ≡ [] = drop_all at ys (subst (λ zs. length zs ≤ at) same ended) in
    sym (append-nil ps) ∙ ap (λ zs. ps ++ besides xs zs) (sym none) ∙ made ∙ sym (joined_items xs xs ys d (λ y k. refl))

pub joined-HasNoRepeats : (ps xs ys : List Item) → HasNoRepeats xs → ps ≡ add_all xs ys → HasNoRepeats ps
joined-HasNoRepeats ps xs ys d made = subst HasNoRepeats (sym made) (add_all-HasNoRepeats xs ys d)

same_length : (xs ys : List Item) → length (xs ++ ys) ≡ length xs → xs ++ ys ≡ xs
same_length [] [] h = refl
same_length [] (y ∷ ys) h = absurd (omega arith)
same_length (x ∷ xs) ys h = ap (λ zs. x ∷ zs) (same_length xs ys (omega arith))

-- where the list is no longer than the first, the second has nothing besides
pub none_joined : (ps xs ys : List Item) → HasNoRepeats ys → ps ≡ add_all xs ys → length ps ≡ length xs → xs ≡ add_all xs ys
none_joined ps xs ys d made long =
    let all : add_all xs ys ≡ xs ++ besides xs ys = joined_items xs xs ys d (λ y k. refl) in
    sym (all ∙ same_length xs (besides xs ys) (sym (ap length (made ∙ all)) ∙ long))

-- where one of the new items is put last, the others are new still
pub left-new : (xs ys : List Item) (y : Item) → HasNoRepeats (y ∷ ys) → AreNew xs (y ∷ ys) → AreNew (xs ++ y ∷ []) ys
left-new xs ys y once new z stands =
    among-push xs y z ∙ ap (λ b. b || same_item y z) (new z (inr stands)) ∙ unequal y ys z once stands

-- it is put last where each is put last unless it is there
pub put-new : (xs ys : List Item) (y : Item) → AreNew xs (y ∷ ys) → add_all (xs ++ y ∷ []) ys ≡ add_all xs (y ∷ ys)
put-new xs ys y new = ap (λ zs. add_all zs ys) (sym (ap (λ b. if b then xs else xs ++ y ∷ []) (new y (inl refl))))
