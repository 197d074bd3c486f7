use Rattle.std.proofs.Common.{◌+◌, ◌*◌}
use Rattle.policy_syntax.specs.Views.{policy_of}
use Rattle.policy_isolate.specs.Measures.{nodes_of}
use Rattle.policy_compile.proofs.stages.+stages.Given as goal

abbrev pub decreases-made_of : goal.decreases-made_of
decreases-made_of g l = 4 * nodes_of (policy_of l.tree.now)

abbrev pub decreases-add_whole : goal.decreases-add_whole
decreases-add_whole g l = 4 * nodes_of (policy_of l.tree.now) + 1

abbrev pub decreases-add_made : goal.decreases-add_made
decreases-add_made g l = 4 * nodes_of (policy_of l.tree.now) + 2

abbrev pub decreases-summed : goal.decreases-summed
decreases-summed g l = 4 * (nodes_of (policy_of l.first.now) + nodes_of (policy_of l.second.now)) + 3

abbrev pub decreases-chained : goal.decreases-chained
decreases-chained g l = 4 * (nodes_of (policy_of l.first.now) + nodes_of (policy_of l.second.now)) + 3

abbrev pub decreases-put_whole : goal.decreases-put_whole
decreases-put_whole g l = 4 * nodes_of (policy_of l.tree.now) + 1

abbrev pub decreases-put_made : goal.decreases-put_made
decreases-put_made g l = 4 * nodes_of (policy_of l.tree.now) + 2

abbrev pub decreases-put_whole_behind : goal.decreases-put_whole_behind
decreases-put_whole_behind g l = 4 * nodes_of (policy_of l.tree.now) + 1

abbrev pub decreases-put_behind : goal.decreases-put_behind
decreases-put_behind g l = 4 * nodes_of (policy_of l.tree.now) + 2
