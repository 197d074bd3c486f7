use Rattle.std.proofs.Common.{arith}
use Rattle.std.specs.Prelude.{codes}
use Rattle.net_types.specs.Policies.{Then, Both}
use Rattle.grammar.specs.Octets.{among}
use Rattle.net_types.specs.PolicyReading.{read_then, read_thens, read_plus, read_pluses, read_pred_group, read_policy_group}
use Rattle.policy_syntax.specs.Views.{policy_of}
use Rattle.grammar.proofs.RepeatLoops.{starts_reading}
use Rattle.policy_syntax.proofs.policies.+policies.Goals as goal

pub thens-loop-left-init : goal.thens-loop-left-init
unfolding read_thens
thens-loop-left-init t c = record { reads = starts_reading (among (codes ">")) Then (read_then (read_pred_group c.args.depth) (read_policy_group c.args.depth)) c.args.size (policy_of c.args.first) c.args.rest.now; left_len = omega arith }

pub pluses-loop-left-init : goal.pluses-loop-left-init
unfolding read_pluses
pluses-loop-left-init t c = record { reads = starts_reading (among (codes "+")) Both (read_plus (read_pred_group c.args.depth) (read_policy_group c.args.depth)) c.args.size (policy_of c.args.first) c.args.rest.now; left_len = omega arith }
