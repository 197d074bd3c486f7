-- Each node is looked at once.
use Rattle.std.proofs.Common.{◌+◌, ◌*◌}
use Rattle.policy_syntax.specs.Views.{policy_of}
use Rattle.policy_syntax.specs.Nodes.{node_of}
use Rattle.policy_isolate.specs.Measures.{nodes_of}
use Rattle.policy_isolate.proofs.outbound.+outbound.Given as goal

abbrev pub decreases-passed : goal.decreases-passed
decreases-passed g l = 2 * nodes_of (node_of l.node)

abbrev pub decreases-check_out : goal.decreases-check_out
decreases-check_out g l = 2 * nodes_of (policy_of l.tree.now) + 1
