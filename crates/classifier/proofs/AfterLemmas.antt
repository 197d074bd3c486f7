-- Items behind an assignment, added to others one by one.
use Rattle.std.proofs.Common.{◌≡◌, true, List, [], ◌∷◌, ◌++◌, map, refl, inl, inr, sym, ap, ◌∙◌}
use Rattle.std.proofs.lemmas.Bool.{cases_Bool}
use Rattle.net_types.proofs.SetLemmas
use Rattle.classifier.specs.declared.join.Join.TheVariants.{Union}
use Rattle.classifier.specs.Items.{Item, is_among, add, add_all}
use Rattle.classifier.specs.Lines.{joined, after, after_all}
use Rattle.classifier.proofs.ItemLemmas.{among-member, member-among}
use Rattle.classifier.proofs.DecideLemmas.{same_add_all}

-- what is among the added items is among them all
among-add_all : (xs ys : List Item) (z : Item) → is_among ys z ≡ true → is_among (add_all xs ys) z ≡ true
among-add_all xs ys z h = member-among (add_all xs ys) z ((same_add_all xs ys).back z (SetLemmas.Member-append_right xs ys z (among-member ys z h)))

add_all-push : (xs ys : List Item) (z : Item) → add_all xs (ys ++ z ∷ []) ≡ add (add_all xs ys) z
add_all-push xs [] z = refl
add_all-push xs (y ∷ ys) z = add_all-push (add xs y) ys z

add_all-add : (xs ys : List Item) (z : Item) → add_all xs (add ys z) ≡ add (add_all xs ys) z
add_all-add xs ys z = elim (cases_Bool (is_among ys z)) [
  | inl there ↦ rw (there, among-add_all xs ys z there) refl
  | inr absent ↦ rw absent (add_all-push xs ys z)
]

-- to add a list that was made by adding is to add what it was made of
pub add_all-twice : (xs ys zs : List Item) → add_all xs (add_all ys zs) ≡ add_all (add_all xs ys) zs
add_all-twice xs ys [] = refl
add_all-twice xs ys (z ∷ zs) = add_all-twice xs (add ys z) zs ∙ ap (λ ws. add_all ws zs) (add_all-add xs ys z)

-- items behind an assignment are added one by one as they are added together
pub add_all_after : (first : Item) (xs items : List Item) → add_all xs (map (after first) items) ≡ joined Union xs (after_all first items)
add_all_after first xs items = sym (add_all-twice xs [] (map (after first) items))
