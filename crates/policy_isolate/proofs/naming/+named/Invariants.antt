-- Each node is looked at once.
use Rattle.std.proofs.Common.{◌+◌, ◌*◌}
use Rattle.policy_syntax.specs.Views.{policy_of}
use Rattle.policy_syntax.specs.Nodes.{node_of}
use Rattle.policy_isolate.specs.Measures.{nodes_of}
use Rattle.policy_isolate.proofs.naming.+named.Given as goal

abbrev pub decreases-add_node : goal.decreases-add_node
decreases-add_node g l = 2 * nodes_of (node_of l.node)

abbrev pub decreases-add_tree : goal.decreases-add_tree
decreases-add_tree g l = 2 * nodes_of (policy_of l.tree.now) + 1
