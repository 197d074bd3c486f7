use Rattle.std.proofs.Common.{◌∷◌, sym, ◌∙◌, subst}
use Rattle.net_types.specs.Meets.{meets}
use Rattle.net_types.specs.Sets.{Member}
use Rattle.net_types.proofs.WidthLemmas.{meets-again}
use Rattle.classifier.specs.Seen.{cube_eq}
use Rattle.classifier.proofs.SeenLemmas.{cube_eq_exact, cube_eq_refl}
use Rattle.policy_compile.proofs.SetsLemmas.{any-Member}
use Rattle.policy_compile.proofs.CountLemmas.{all_up_to}
use Rattle.policy_compile.proofs.meets.push_atom.Goals as goal

pub returns-else-not-contains : goal.returns-else-not-contains
returns-else-not-contains c = λ cubes e.
    let kept = c.args.kept.now.keys in
    let cube = c.args.cube.now in
    let there = subst (Member cube) e (any-Member cube_eq cube_eq_exact cube_eq_refl kept cube (sym c.contains.ensures ∙ c.if-not-contains.false)) in
    all_up_to c.args.limit kept (meets (cube ∷ cubes)) (e ∙ sym (meets-again cube cubes there))
