use Rattle.std.proofs.Common.{ap, ◌∙◌}
use Rattle.classifier.specs.Seen.{cube_eq}
use Rattle.net_types.proofs.SetLemmas
use Rattle.policy_compile.specs.Sets.{adds}
use Rattle.policy_compile.proofs.SetsLemmas.{cubes-same}
use Rattle.policy_compile.proofs.atoms.sum_of.Goals as goal

pub returns : goal.returns
returns c = SetLemmas.same_trans (SetLemmas.same_eq (c.in_ok-push_all.ensures ∙ ap (adds cube_eq c.args.first.keys) c.as_slice.ensures.keys)) (cubes-same c.args.first.keys c.args.second.now.keys)
