use Rattle.std.proofs.Common.{◌+◌, ◌*◌}
use Rattle.policy_syntax.specs.Views.{policy_of}
use Rattle.policy_isolate.specs.Measures.{nodes_of}
use Rattle.policy_compile.proofs.policies.+sums.Given as goal

abbrev pub decreases-compiled : goal.decreases-compiled
decreases-compiled g l = 3 * nodes_of (policy_of l.tree.now)

abbrev pub decreases-parts_of : goal.decreases-parts_of
decreases-parts_of g l = 3 * nodes_of (policy_of l.tree.now) + 1

abbrev pub decreases-parts_of_both : goal.decreases-parts_of_both
decreases-parts_of_both g l = 3 * (nodes_of (policy_of l.first.now) + nodes_of (policy_of l.second.now)) + 2

abbrev pub decreases-whole_before : goal.decreases-whole_before
decreases-whole_before g l = 3 * nodes_of (policy_of l.tree.now) + 1

abbrev pub decreases-before : goal.decreases-before
decreases-before g l = 3 * nodes_of (policy_of l.tree.now) + 2

abbrev pub decreases-parts_before : goal.decreases-parts_before
decreases-parts_before g l = 3 * nodes_of (policy_of l.tree.now) + 3

abbrev pub decreases-parts_of_both_before : goal.decreases-parts_of_both_before
decreases-parts_of_both_before g l = 3 * (nodes_of (policy_of l.first.now) + nodes_of (policy_of l.second.now)) + 4
