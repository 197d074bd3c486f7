-- What equals the cube is the cube.
use Rattle.std.proofs.Common.{Some, sym, ap, ◌∙◌}
use Rattle.classifier.proofs.SeenLemmas.{cube_eq_is, same_cube_exact}
use Rattle.block_build.proofs.exits.is_last.Goals as goal

pub returns-in-Some : goal.returns-in-Some
returns-in-Some c = λ equal.
    c.in-Some.is ∙ ap Some (same_cube_exact c.in-Some.earlier c.args.cube.now (sym (cube_eq_is c.in-Some.earlier c.args.cube.now) ∙ sym c.eq.ensures ∙ equal))
