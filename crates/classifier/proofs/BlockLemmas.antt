-- Lines that are added to two lists are added to them together.
use Rattle.std.proofs.Common.{◌≡◌, true, cond, List, [], ◌∷◌, ◌++◌, refl, inl, inr, sym, ap, ◌∙◌, subst}
use Rattle.std.proofs.lemmas.Bool.{cases_Bool}
use Rattle.net_types.specs.Cubes.{everything}
use Rattle.net_types.specs.Sets.{Member}
use Rattle.net_types.proofs.SetLemmas
use Rattle.classifier.specs.declared.line.Line.{Line}
use Rattle.classifier.specs.declared.join.Join.TheVariants.{Union}
use Rattle.classifier.specs.Items.{Item}
use Rattle.classifier.specs.Lines.{is_shadowed, add_line, add_lines, product, pulled, block}
use Rattle.classifier.specs.Meaning.{cubes_of}
use Rattle.classifier.proofs.AddLemmas.{add_lines_append}
use Rattle.classifier.proofs.ShapeLemmas.{cubes-push, there-shadowed, closed-shadowed, shadowed-there, everything-add_lines}

-- ---- what is shadowed stays so

stays-push : (xs : List Line) (x y : Line) → is_shadowed xs y ≡ true → is_shadowed (xs ++ x ∷ []) y ≡ true
stays-push xs x y h = elim (shadowed-there xs y h) [
  | inl there ↦ there-shadowed (xs ++ x ∷ []) y (subst (Member y.cube) (sym (cubes-push xs x)) (SetLemmas.Member-append_left (cubes_of xs) (x.cube ∷ []) y.cube there))
  | inr all ↦ closed-shadowed (xs ++ x ∷ []) y (subst (Member everything) (sym (cubes-push xs x)) (SetLemmas.Member-append_left (cubes_of xs) (x.cube ∷ []) everything all))
]

stays-add_line : (xs : List Line) (x y : Line) → is_shadowed xs y ≡ true → is_shadowed (add_line xs x) y ≡ true
stays-add_line xs x y h = elim (cases_Bool (is_shadowed xs x)) [
  | inl hidden ↦ subst (λ b. is_shadowed (cond b xs (xs ++ x ∷ [])) y ≡ true) (sym hidden) h
  | inr reached ↦ subst (λ b. is_shadowed (cond b xs (xs ++ x ∷ [])) y ≡ true) (sym reached) (stays-push xs x y h)
]

stays-add_lines : (xs zs : List Line) (y : Line) → is_shadowed xs y ≡ true → is_shadowed (add_lines xs zs) y ≡ true
stays-add_lines xs [] y h = h
stays-add_lines xs (z ∷ zs) y h = stays-add_lines (add_line xs z) zs y (stays-add_line xs z y h)

-- once a line was added, one with its cube is shadowed
alike-add_line : (xs : List Line) (x y : Line) → y.cube ≡ x.cube → is_shadowed (add_line xs x) y ≡ true
alike-add_line xs x y e = elim (cases_Bool (is_shadowed xs x)) [
  | inl hidden ↦ subst (λ b. is_shadowed (cond b xs (xs ++ x ∷ [])) y ≡ true) (sym hidden) (elim (shadowed-there xs x hidden) [
    | inl there ↦ there-shadowed xs y (subst (λ c. Member c (cubes_of xs)) (sym e) there)
    | inr all ↦ closed-shadowed xs y all
  ])
  | inr reached ↦ subst (λ b. is_shadowed (cond b xs (xs ++ x ∷ [])) y ≡ true) (sym reached)
      (there-shadowed (xs ++ x ∷ []) y (subst (Member y.cube) (sym (cubes-push xs x)) (SetLemmas.Member-append_right (cubes_of xs) (x.cube ∷ []) y.cube (inl e))))
]

there-added : (kept xs : List Line) (y : Line) → Member y.cube (cubes_of xs) → is_shadowed (add_lines kept xs) y ≡ true
there-added kept [] y h = elim h [ ]
there-added kept (x ∷ xs) y (inl e) = stays-add_lines (add_line kept x) xs y (alike-add_line kept x y e)
there-added kept (x ∷ xs) y (inr h) = there-added (add_line kept x) xs y h

shadowed-added : (kept xs : List Line) (y : Line) → is_shadowed xs y ≡ true → is_shadowed (add_lines kept xs) y ≡ true
shadowed-added kept xs y h = elim (shadowed-there xs y h) [
  | inl there ↦ there-added kept xs y there
  | inr all ↦ closed-shadowed (add_lines kept xs) y (everything-add_lines kept xs (subst (Member everything) (sym (SetLemmas.map-append (λ z. z.cube) kept xs)) (SetLemmas.Member-append_right (cubes_of kept) (cubes_of xs) everything all)))
]

-- ---- lists that were made by adding

add_lines-add : (kept xs : List Line) (y : Line) → add_lines kept (add_line xs y) ≡ add_line (add_lines kept xs) y
add_lines-add kept xs y = elim (cases_Bool (is_shadowed xs y)) [
  | inl hidden ↦ let there = shadowed-added kept xs y hidden in rw (hidden, there) refl
  | inr reached ↦ rw reached (add_lines_append kept xs (y ∷ []))
]

pub add_lines-twice : (kept xs ys : List Line) → add_lines kept (add_lines xs ys) ≡ add_lines (add_lines kept xs) ys
add_lines-twice kept xs [] = refl
add_lines-twice kept xs (y ∷ ys) = add_lines-twice kept (add_line xs y) ys ∙ ap (λ zs. add_lines zs ys) (add_lines-add kept xs y)

-- what is given after the last of the items
block-last : (xs : List Line) (items : List Item) (item : Item) (ys : List Line) → block xs (items ++ item ∷ []) ys ≡ add_lines [] (product Union (block xs items ys) (pulled item ys))
block-last xs [] item ys = refl
block-last xs (first ∷ rest) item ys = block-last (add_lines [] (product Union xs (pulled first ys))) rest item ys

-- it is added to what was kept as it is made
pub block_added : (kept xs : List Line) (items : List Item) (item : Item) (ys : List Line) → add_lines kept (block xs (items ++ item ∷ []) ys) ≡ add_lines kept (product Union (block xs items ys) (pulled item ys))
block_added kept xs items item ys = ap (add_lines kept) (block-last xs items item ys) ∙ add_lines-twice kept [] (product Union (block xs items ys) (pulled item ys))
