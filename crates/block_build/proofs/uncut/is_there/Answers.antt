-- What is hidden is there, where the cube of all headers isn't.
use Rattle.std.proofs.Common.{inl, sym, ◌∙◌, subst}
use Rattle.classifier.specs.Meaning.{cubes_of}
use Rattle.net_types.specs.Sets.{Member}
use Rattle.block_build.proofs.ClosedLemmas.{hidden_there}
use Rattle.block_build.proofs.uncut.is_there.Goals as goal
use Rattle.std.proofs.lemmas.Option.{same_Some}

pub returns-else-is_same : goal.returns-else-is_same
returns-else-is_same c = λ hidden m e.
    inl (subst (λ d. Member d (cubes_of c.args.lines.now)) (same_Some _ _ (sym (sym c.meet.ensures.value ∙ c.in-Some.is) ∙ e))
    (hidden_there c.args.lines.now c.in-Some.met c.args.cube.now c.requires.fresh (sym c.is_hidden.ensures ∙ hidden)))
