use Rattle.std.proofs.Common.{◌≡◌, OnOk, sym, ◌∙◌, subst}
use Rattle.classifier.specs.Seen.{cube_eq}
use Rattle.policy_syntax.specs.Views.{pred_of}
use Rattle.policy_compile.specs.Sets.{adds}
use Rattle.policy_compile.proofs.AtomLemmas.{atoms-found, atoms-apart}
use Rattle.policy_compile.proofs.atoms.+tests.Goals as goal

pub push_atoms-returns-in-Some : goal.push_atoms-returns-in-Some
push_atoms-returns-in-Some t c =
    subst (λ xs. OnOk c.push_found.result (c.push_found.new.cubes.keys ≡ adds cube_eq c.args.cubes.now.keys xs))
    (atoms-found (pred_of c.args.pred.now) c.in-Some.found (sym c.plain_cube.ensures ∙ c.in-Some.is)) c.push_found.ensures

pub push_atoms-returns-in-None : goal.push_atoms-returns-in-None
push_atoms-returns-in-None t c =
    subst (λ xs. OnOk c.push_parts.result (c.push_parts.new.cubes.keys ≡ adds cube_eq c.args.cubes.now.keys xs))
    (atoms-apart (pred_of c.args.pred.now) (sym c.plain_cube.ensures ∙ c.in-None.is)) c.push_parts.ensures
