use Rattle.std.proofs.Common.{◌≡◌, ◌∷◌, [], ◌++◌, refl, inl, sym, ap, ◌∙◌, subst}
use Rattle.net_types.specs.Cubes.{everything}
use Rattle.net_types.specs.Sets.{Member}
use Rattle.net_types.proofs.SetLemmas
use Rattle.policy_syntax.specs.Views.{policy_of}
use Rattle.cells.specs.Cells.{AreCells}
use Rattle.policy_compile.specs.Paths.{AreAt}
use Rattle.policy_compile.proofs.RuleLemmas.{compiled-at}
use Rattle.policy_compile.proofs.at_cells.compiled_at_cells.Goals as goal

pub classifier_of-requires : goal.classifier_of-requires
classifier_of-requires g c =
    let cubes = c.in_ok-cubes.cubes.items in
    let all : c.deref.result.now ≡ cubes ++ everything ∷ [] = c.deref.ensures.value ∙ c.in_ok-push.ensures.items ∙ ap (λ x. cubes ++ x ∷ []) c.everything.ensures in
    subst (Member everything) (sym (c.in_ok-lines.ensures.cubes_are ∙ all)) (SetLemmas.Member-append_right cubes (everything ∷ []) everything (inl refl))

pub returns : goal.returns
returns g c =
    let pid_of = g.N.Names.pid_of c.args.names.now in
    let p = policy_of c.args.tree.now in
    let atoms = c.in_ok-atoms.atoms.keys in
    let cubes = c.in_ok-cubes.cubes.items in
    let lines = c.in_ok-lines.lines.items in
    let all : c.deref.result.now ≡ cubes ++ everything ∷ [] = c.deref.ensures.value ∙ c.in_ok-push.ensures.items ∙ ap (λ x. cubes ++ x ∷ []) c.everything.ensures in
    compiled-at pid_of p atoms cubes lines c.in_ok-made.made c.in_ok-atoms.ensures
    (subst (λ xs. AreCells xs cubes) c.as_slice.ensures.keys c.in_ok-cubes.ensures)
    (subst (λ xs. AreAt pid_of p xs lines) all c.in_ok-lines.ensures) c.in_ok-made.ensures
