-- A group takes one from the depth, and each rule calls only those under it.
use Rattle.std.proofs.Common.{◌≤◌, ◌+◌, ◌*◌, length}
use Rattle.std.specs.Prelude.{codes}
use Rattle.net_types.specs.Policies.{Then, Both}
use Rattle.grammar.specs.Octets.{among}
use Rattle.net_types.specs.PolicyReading.{read_then, read_thens, read_plus, read_pluses, read_pred_group, read_policy_group}
use Rattle.policy_syntax.specs.Views.{policy_of}
use Rattle.grammar.proofs.RepeatLoops.{StillReads}
use Rattle.policy_syntax.proofs.policies.+policies.Given as goal

abbrev pub decreases-group : goal.decreases-group
decreases-group l = 10 * l.depth

abbrev pub decreases-atom : goal.decreases-atom
decreases-atom l = 10 * l.depth + 1

abbrev pub decreases-then_atom : goal.decreases-then_atom
decreases-then_atom l = 10 * l.depth + 2

abbrev pub decreases-thens : goal.decreases-thens
decreases-thens l = 10 * l.depth + 3

abbrev pub decreases-chain : goal.decreases-chain
decreases-chain l = 10 * l.depth + 4

abbrev pub decreases-plus_chain : goal.decreases-plus_chain
decreases-plus_chain l = 10 * l.depth + 5

abbrev pub decreases-pluses : goal.decreases-pluses
decreases-pluses l = 10 * l.depth + 6

abbrev pub decreases-policy : goal.decreases-policy
decreases-policy l = 10 * l.depth + 7

abbrev pub invariant-thens-loop-left : goal.invariant-thens-loop-left
invariant-thens-loop-left l = record {
  reads : StillReads (among (codes ">")) Then (read_then (read_pred_group l.depth) (read_policy_group l.depth)) l.size (read_thens (read_pred_group l.depth) (read_policy_group l.depth) (policy_of l.fn.first) l.size l.rest) (policy_of l.all) l.left;
  left_len : length l.left ≤ length l.rest;
}

abbrev pub decreases-thens-loop-left : goal.decreases-thens-loop-left
decreases-thens-loop-left l = length l.left

abbrev pub invariant-pluses-loop-left : goal.invariant-pluses-loop-left
invariant-pluses-loop-left l = record {
  reads : StillReads (among (codes "+")) Both (read_plus (read_pred_group l.depth) (read_policy_group l.depth)) l.size (read_pluses (read_pred_group l.depth) (read_policy_group l.depth) (policy_of l.fn.first) l.size l.rest) (policy_of l.all) l.left;
  left_len : length l.left ≤ length l.rest;
}

abbrev pub decreases-pluses-loop-left : goal.decreases-pluses-loop-left
decreases-pluses-loop-left l = length l.left
