use Rattle.std.proofs.Common.{arith}
use Rattle.std.specs.Prelude.{codes}
use Rattle.net_types.specs.Policies.{And, Or}
use Rattle.grammar.specs.Octets.{among}
use Rattle.net_types.specs.PolicyReading.{read_and, read_ands, read_or, read_ors, read_pred_group}
use Rattle.policy_syntax.specs.Views.{pred_of}
use Rattle.grammar.proofs.RepeatLoops.{starts_reading}
use Rattle.policy_syntax.proofs.preds.+preds.Goals as goal

pub ands-loop-left-init : goal.ands-loop-left-init
unfolding read_ands
ands-loop-left-init t c = record { reads = starts_reading (among (codes "&,")) And (read_and (read_pred_group c.args.depth)) c.args.size (pred_of c.args.first) c.args.rest.now; left_len = omega arith }

pub ors-loop-left-init : goal.ors-loop-left-init
unfolding read_ors
ors-loop-left-init t c = record { reads = starts_reading (among (codes "|")) Or (read_or (read_pred_group c.args.depth)) c.args.size (pred_of c.args.first) c.args.rest.now; left_len = omega arith }
