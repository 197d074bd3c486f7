-- A cube behind which none of the same is reached.
use Rattle.std.proofs.Common.{◌≡◌, true, ◌||◌, cond, Some, List, [], ◌∷◌, ◌++◌, refl, inl, inr, sym, ap, ◌∙◌, subst}
use Rattle.std.specs.Option.{option_map}
use Rattle.std.proofs.lemmas.Bool.{cases_Bool}
use Rattle.net_types.proofs.SetLemmas
use Rattle.net_types.specs.Cubes.{everything, lies_within_cube, meet_cubes}
use Rattle.net_types.specs.Sets.{Member}
use Rattle.net_types.specs.declared.address.PortNo.{PortNo}
use Rattle.net_types.specs.declared.cube.Cube.{Cube}
use Rattle.classifier.proofs.ShapeLemmas.{cubes-push, there-shadowed}
use Rattle.classifier.specs.Items.{Item}
use Rattle.classifier.specs.Lines.{add_line, add_lines, cons_line, is_shadowed, joined, line, same_cube}
use Rattle.classifier.specs.Meaning.{cubes_of}
use Rattle.classifier.specs.declared.join.Join.TheVariants.{Union}
use Rattle.classifier.specs.declared.line.Line.{Line}
use Rattle.block_build.specs.Receivers.{received_items}
use Rattle.block_build.proofs.ExitLemmas.{row_received}

-- the cube alone decides whether a rule is reached
pub shadowed-cube : (xs : List Line) (is js : List Item) (c : Cube) → is_shadowed xs (line is c) ≡ is_shadowed xs (line js c)
shadowed-cube [] is js c = refl
shadowed-cube (x ∷ xs) is js c = ap (λ b. (same_cube x.cube c || lies_within_cube everything x.cube) || b) (shadowed-cube xs is js c)

-- behind a rule that was added where it is reached, none of the same cube is
pub past_added : (xs : List Line) (items : List Item) (c : Cube) → is_shadowed (add_line xs (line items c)) (line [] c) ≡ true
past_added xs items c = elim (cases_Bool (is_shadowed xs (line items c))) [
  | inl there ↦ subst (λ (zs : List Line). is_shadowed zs (line [] c) ≡ true) (sym (ap (λ b. cond b xs (xs ++ line items c ∷ [])) there)) (shadowed-cube xs [] items c ∙ there)
  | inr fresh ↦
      subst (λ (zs : List Line). is_shadowed zs (line [] c) ≡ true) (sym (ap (λ b. cond b xs (xs ++ line items c ∷ [])) fresh))
      (there-shadowed (xs ++ line items c ∷ []) (line [] c)
      (subst (Member c) (sym (cubes-push xs (line items c))) (SetLemmas.Member-append_right (cubes_of xs) (c ∷ []) c (inl refl))))
]

-- a rule joined with one of a receiver whose cube is past adds nothing
pub met_past : (hop : PortNo) (x y : Line) (c : Cube) (xs : List Line) → meet_cubes x.cube y.cube ≡ Some c → is_shadowed xs (line [] c) ≡ true → xs ≡ add_lines xs (row_received hop x (y ∷ []))
met_past hop x y c xs met past =
    let items : List Item = joined Union x.results (received_items hop y.results) in
    sym (ap (λ o. add_lines xs (cons_line (option_map (line items) o) [])) met ∙ ap (λ b. cond b xs (xs ++ line items c ∷ [])) (shadowed-cube xs items [] c ∙ past))
