-- A tree's top with its parts as a policy.
use Rattle.policy_syntax.specs.declared.node.Node as node
use Rattle.policy_syntax.specs.declared.node.Node.TheVariants as nodes
use Rattle.net_types.specs.Policies.{Policy, Drop, Pass, Block, Fwd, Match, Set, Both, Then}
use Rattle.policy_syntax.specs.Views.{target_of, pred_of, policy_of}

-- the top of a tree, with the policies of its parts
abbrev pub node_of : node.Node → Policy
node_of nodes.Drop = Drop
node_of nodes.Pass = Pass
node_of nodes.Block = Block
node_of (nodes.Fwd t s) = Fwd (target_of t) s
node_of (nodes.Test p) = Match (pred_of p.now)
node_of (nodes.Set a s) = Set a s
node_of (nodes.Both a b) = Both (policy_of a.now) (policy_of b.now)
node_of (nodes.Then a b) = Then (policy_of a.now) (policy_of b.now)
