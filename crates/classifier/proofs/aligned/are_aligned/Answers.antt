use Rattle.std.proofs.Common.{◌≡◌, ◌∙◌, ◌+◌, ◌<◌, ◌++◌, ◌∷◌, [], ap, length, slice_index_or, sym, subst, take, Bool, not, true, false, refl}
use Rattle.std.proofs.lemmas.List.{take_more}
use Rattle.classifier.specs.declared.line.Line.{Line}
use Rattle.classifier.specs.Meaning.{cubes_of}
use Rattle.classifier.specs.Seen.{cube_eq}
use Rattle.classifier.proofs.SeenLemmas.{cube_eq_is, same_cube_exact}
use Rattle.classifier.proofs.ShapeLemmas.{cubes-push}
use Rattle.classifier.proofs.aligned.are_aligned.Goals as goal

denied : (b : Bool) → not b ≡ false → b ≡ true
denied true e = refl
denied false e = sym e

pub loop-i-preserved : goal.loop-i-preserved
loop-i-preserved c =
    let xs = c.args.xs.now in
    let ys = c.args.ys.now in
    let i = c.loop-i.i in
    let x = c.index-xs-i.result in
    let y = c.index-ys-i.result in
    let there : i < length ys = subst (λ n. i < n) c.loop-i.invariant.long c.loop-i-test.true in
    let first : take (i + 1) xs ≡ take i xs ++ x ∷ [] = take_more xs i x c.loop-i-test.true ∙ ap (λ z. take i xs ++ z ∷ []) (sym c.index-xs-i.is) in
    let second : take (i + 1) ys ≡ take i ys ++ y ∷ [] = take_more ys i y there ∙ ap (λ z. take i ys ++ z ∷ []) (sym c.index-ys-i.is) in
    let one = slice_index_or xs i x in
    let other = slice_index_or ys i y in
    let cubes : x.cube ≡ y.cube = ap (λ (z : Line). z.cube) c.index-xs-i.is
    ∙ same_cube_exact one.cube other.cube (sym (cube_eq_is one.cube other.cube) ∙ denied (cube_eq one.cube other.cube) (sym c.ne.ensures ∙ c.if-ne.false))
    ∙ sym (ap (λ (z : Line). z.cube) c.index-ys-i.is) in
    record {
      same = ap cubes_of first ∙ cubes-push (take i xs) x ∙ ap (λ cs. cs ++ x.cube ∷ []) c.loop-i.invariant.same
          ∙ ap (λ z. cubes_of (take i ys) ++ z ∷ []) cubes ∙ sym (cubes-push (take i ys) y) ∙ sym (ap cubes_of second);
      long = c.loop-i.invariant.long;
    }
