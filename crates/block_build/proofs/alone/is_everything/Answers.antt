-- What equals the cube of all headers is that cube.
use Rattle.std.proofs.Common.{sym, ap, ◌∙◌}
use Rattle.classifier.proofs.SeenLemmas.{cube_eq_is, same_cube_exact}
use Rattle.classifier.specs.Seen.{cube_eq}
use Rattle.net_types.specs.Cubes.{everything}
use Rattle.block_build.proofs.alone.is_everything.Goals as goal

pub returns : goal.returns
returns c = λ equal.
    same_cube_exact c.args.cube.now everything
    (sym (cube_eq_is c.args.cube.now everything) ∙ ap (cube_eq c.args.cube.now) (sym c.everything.ensures) ∙ sym c.eq.ensures ∙ equal)
