-- Equal cubes are one.
use Rattle.std.proofs.Common.{sym, ◌∙◌}
use Rattle.classifier.proofs.SeenLemmas.{cube_eq_is, same_cube_exact}
use Rattle.block_build.proofs.tested.is_same.Goals as goal

pub returns : goal.returns
returns c = λ equal. same_cube_exact c.args.a.now c.args.b.now (sym (cube_eq_is c.args.a.now c.args.b.now) ∙ sym c.eq.ensures ∙ equal)
