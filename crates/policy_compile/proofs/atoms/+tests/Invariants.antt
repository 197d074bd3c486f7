use Rattle.std.proofs.Common.{◌+◌, ◌*◌}
use Rattle.policy_syntax.specs.Views.{pred_of}
use Rattle.policy_compile.specs.Measures.{pred_size}
use Rattle.policy_compile.proofs.atoms.+tests.Given as goal

abbrev pub decreases-push_parts : goal.decreases-push_parts
decreases-push_parts l = 2 * pred_size (pred_of l.pred.now)

abbrev pub decreases-push_atoms : goal.decreases-push_atoms
decreases-push_atoms l = 2 * pred_size (pred_of l.pred.now) + 1
