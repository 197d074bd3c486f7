-- A group takes one from the depth, and each rule calls only those under it.
use Rattle.std.proofs.Common.{◌≤◌, ◌+◌, ◌*◌, length}
use Rattle.std.specs.Prelude.{codes}
use Rattle.net_types.specs.Policies.{And, Or}
use Rattle.grammar.specs.Octets.{among}
use Rattle.net_types.specs.PolicyReading.{read_and, read_ands, read_or, read_ors, read_pred_group}
use Rattle.policy_syntax.specs.Views.{pred_of}
use Rattle.grammar.proofs.RepeatLoops.{StillReads}
use Rattle.policy_syntax.proofs.preds.+preds.Given as goal

abbrev pub decreases-pred_group : goal.decreases-pred_group
decreases-pred_group l = 10 * l.depth

abbrev pub decreases-prim : goal.decreases-prim
decreases-prim l = 10 * l.depth + 1

abbrev pub decreases-lit : goal.decreases-lit
decreases-lit l = 10 * l.depth + 2

abbrev pub decreases-and_lit : goal.decreases-and_lit
decreases-and_lit l = 10 * l.depth + 3

abbrev pub decreases-ands : goal.decreases-ands
decreases-ands l = 10 * l.depth + 4

abbrev pub decreases-conj : goal.decreases-conj
decreases-conj l = 10 * l.depth + 5

abbrev pub decreases-or_conj : goal.decreases-or_conj
decreases-or_conj l = 10 * l.depth + 6

abbrev pub decreases-ors : goal.decreases-ors
decreases-ors l = 10 * l.depth + 7

abbrev pub decreases-pred : goal.decreases-pred
decreases-pred l = 10 * l.depth + 8

abbrev pub invariant-ands-loop-left : goal.invariant-ands-loop-left
invariant-ands-loop-left l = record {
  reads : StillReads (among (codes "&,")) And (read_and (read_pred_group l.depth)) l.size (read_ands (read_pred_group l.depth) (pred_of l.fn.first) l.size l.rest) (pred_of l.all) l.left;
  left_len : length l.left ≤ length l.rest;
}

abbrev pub decreases-ands-loop-left : goal.decreases-ands-loop-left
decreases-ands-loop-left l = length l.left

abbrev pub invariant-ors-loop-left : goal.invariant-ors-loop-left
invariant-ors-loop-left l = record {
  reads : StillReads (among (codes "|")) Or (read_or (read_pred_group l.depth)) l.size (read_ors (read_pred_group l.depth) (pred_of l.fn.first) l.size l.rest) (pred_of l.all) l.left;
  left_len : length l.left ≤ length l.rest;
}

abbrev pub decreases-ors-loop-left : goal.decreases-ors-loop-left
decreases-ors-loop-left l = length l.left
