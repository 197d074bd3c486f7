use Rattle.std.proofs.Common.{[], ap, ◌∙◌}
use Rattle.classifier.specs.Seen.{cube_eq}
use Rattle.policy_compile.specs.Sets.{adds}
use Rattle.policy_compile.proofs.SetsLemmas.{cubes-copied}
use Rattle.policy_compile.proofs.sets.copy_of.Goals as goal

pub returns : goal.returns
returns c =
    let ks = c.args.set.now.keys in
    c.in_ok-push_all.ensures ∙ ap (λ xs. adds cube_eq xs c.as_slice.result.now) c.new-copy.ensures.empty ∙ ap (adds cube_eq []) c.as_slice.ensures.keys ∙ cubes-copied ks c.as_slice.ensures.unique
