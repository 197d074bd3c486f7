use Rattle.std.proofs.Common.{ap, ◌∙◌}
use Rattle.net_types.specs.Meets.{behind_one}
use Rattle.classifier.specs.Seen.{cube_eq}
use Rattle.policy_compile.specs.Sets.{adds}
use Rattle.net_types.proofs.SetLemmas
use Rattle.policy_compile.proofs.AtomLemmas.{behind-one}
use Rattle.policy_compile.proofs.atoms.behind_set.Goals as goal

pub returns : goal.returns
returns c = SetLemmas.same_trans (SetLemmas.same_eq (c.in_ok-push_behind.ensures ∙ ap (λ ks. adds cube_eq ks (behind_one c.args.set.now c.args.cubes.now)) c.new-found.ensures.empty)) (behind-one c.args.set.now c.args.cubes.now)
