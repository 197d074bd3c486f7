-- Rules with equal cubes and equal results are the same.
use Rattle.std.proofs.Common.{◌≡◌, sym, ◌∙◌}
use Rattle.classifier.proofs.SeenLemmas.{cube_eq_is, same_cube_exact}
use Rattle.block_build.proofs.views.is_same.Goals as goal

pub returns-then-eq : goal.returns-then-eq
returns-then-eq c = λ equal.
    let one = c.args.one.now in
    let other = c.args.other.now in
    let cubes : one.cube ≡ other.cube = same_cube_exact one.cube other.cube (sym (cube_eq_is one.cube other.cube) ∙ sym c.eq.ensures ∙ c.if-eq.true) in
    let results : one.results ≡ other.results = c.equals.ensures.0 equal in
    λ i. record { cube = cubes i; results = results i }
