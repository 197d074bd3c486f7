-- One rule beside the one rule of a receiver.
use Rattle.std.proofs.Common.{◌≡◌, ℕ, ◌+◌, arith, true, List, [], ◌∷◌, ◌++◌, length, length-append, sym, ap, ◌∙◌, subst}
use Rattle.std.specs.Option.{option_map}
use Rattle.net_types.proofs.CubeLemmas.{meet-everything}
use Rattle.net_types.specs.Cubes.{everything}
use Rattle.classifier.proofs.ShapeLemmas.{distinct-add_lines}
use Rattle.classifier.specs.Items.{Item, add_all}
use Rattle.classifier.specs.Lines.{add_lines, cons_line, joined, line, product, row}
use Rattle.classifier.specs.Meaning.{HasDistinctCubes}
use Rattle.classifier.specs.declared.join.Join.TheVariants.{Union}
use Rattle.classifier.specs.declared.line.Line.{Line}
use Rattle.block_build.proofs.ShapeBlocks.{meets-beside}
use Rattle.block_build.specs.Bounds.{AreMeets, IsSomeBeside}
use Rattle.block_build.specs.Spreads.{beside}

-- a rule joined with one for all headers
pub row_alone : (items : List Item) (x : Line) → row Union x (line items everything ∷ []) ≡ line (add_all x.results items) x.cube ∷ []
row_alone items x = ap (λ o. cons_line (option_map (line (joined Union x.results items)) o) []) (meet-everything x.cube)

one_beside : (items : List Item) (x : Line) → line (add_all x.results items) x.cube ∷ [] ≡ beside (x ∷ []) (line items everything ∷ [])
one_beside items x = sym (ap (λ ys. add_lines [] (ys ++ [])) (row_alone items x))

pub alone_beside : (items : List Item) (xs rest : List Line) (x z : Line) → length xs ≡ 1 → xs ≡ rest ++ x ∷ [] → z ≡ line (add_all x.results items) x.cube → rest ++ z ∷ [] ≡ beside xs (line items everything ∷ [])
alone_beside items xs [] x z one split is = ap (λ w. w ∷ []) is ∙ one_beside items x ∙ ap (λ ys. beside ys (line items everything ∷ [])) (sym split)
alone_beside items xs (r ∷ rest) x z one split is =
    let more : length (rest ++ x ∷ []) ≡ length rest + 1 = length-append rest (x ∷ []) in
    let all : length xs ≡ length (r ∷ rest ++ x ∷ []) = ap (λ (ys : List Line). length ys) split in
    absurd (omega (arith, one, more, all))

-- the rules beside a receiver's, however many there are
pub all_beside : (limit : ℕ) (xs ys made : List Line) → made ≡ beside xs ys → IsSomeBeside limit true xs ys made
all_beside limit xs ys made e = record {
  whole_within = λ _. e;
  differ = λ _. subst HasDistinctCubes (sym e) (distinct-add_lines [] (product Union xs ys) tt);
  meets = λ atoms own theirs. subst (AreMeets atoms) (sym e) (meets-beside atoms xs ys own theirs);
}
