-- The rules of a receiver, as ports to leave by, made one by one.
use Rattle.std.proofs.Common.{◌≡◌, true, ◌&&◌, Option, Some, None, List, [], ◌∷◌, ◌++◌, refl, ap, ◌∙◌}
use Rattle.std.specs.Option.{option_map}
use Rattle.net_types.specs.Cubes.{lies_within_cube, meet_cubes}
use Rattle.net_types.specs.declared.address.PortNo.{PortNo}
use Rattle.net_types.specs.declared.cube.Cube.{Cube}
use Rattle.classifier.proofs.RunLemmas.{row-append, row_apart}
use Rattle.classifier.specs.Hulls.{holds_each}
use Rattle.classifier.specs.Lines.{cons_line, joined, line, row}
use Rattle.classifier.specs.declared.join.Join.TheVariants.{Union}
use Rattle.classifier.specs.declared.line.Line.{Line}
use Rattle.block_build.specs.Receivers.{received_items, received_lines}

-- ---- a rule joined with each of a receiver's

abbrev pub row_received : PortNo → Line → List Line → List Line
row_received hop x ys = row Union x (received_lines hop ys)

cons_line-split : (o : Option Line) (zs : List Line) → cons_line o zs ≡ cons_line o [] ++ zs
cons_line-split None zs = refl
cons_line-split (Some x) zs = refl

pub received-first : (hop : PortNo) (x y : Line) (ys : List Line) → row_received hop x (y ∷ ys) ≡ row_received hop x (y ∷ []) ++ row_received hop x ys
received-first hop x y ys = cons_line-split (option_map (line (joined Union x.results (received_items hop y.results))) (meet_cubes x.cube y.cube)) (row_received hop x ys)

pub received_lines-append : (hop : PortNo) (ys zs : List Line) → received_lines hop (ys ++ zs) ≡ received_lines hop ys ++ received_lines hop zs
received_lines-append hop [] zs = refl
received_lines-append hop (y ∷ ys) zs = ap (λ ws. line (received_items hop y.results) y.cube ∷ ws) (received_lines-append hop ys zs)

pub received-append : (hop : PortNo) (x : Line) (ys zs : List Line) → row_received hop x (ys ++ zs) ≡ row_received hop x ys ++ row_received hop x zs
received-append hop x ys zs = ap (row Union x) (received_lines-append hop ys zs) ∙ row-append Union x (received_lines hop ys) (received_lines hop zs)

held-received : (hop : PortNo) (hull : Cube) (ys : List Line) → holds_each hull (received_lines hop ys) ≡ holds_each hull ys
held-received hop hull [] = refl
held-received hop hull (y ∷ ys) = ap (λ b. lies_within_cube y.cube hull && b) (held-received hop hull ys)

-- a rule joined with those of a run that has no headers in common with it
pub received_apart : (hop : PortNo) (x : Line) (hull : Cube) (ys : List Line) → holds_each hull ys ≡ true → meet_cubes x.cube hull ≡ None → row_received hop x ys ≡ []
received_apart hop x hull ys held none = row_apart Union x hull (received_lines hop ys) (held-received hop hull ys ∙ held) none
