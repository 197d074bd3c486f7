-- The program's trees as the policies of the definitions.
use Rattle.policy_syntax.specs.declared.tree.Target as target
use Rattle.policy_syntax.specs.declared.tree.Target.TheVariants as targets
use Rattle.policy_syntax.specs.declared.tree.Test as test
use Rattle.policy_syntax.specs.declared.tree.Test.TheVariants as tests
use Rattle.policy_syntax.specs.declared.tree.Field as field
use Rattle.policy_syntax.specs.declared.tree.Field.TheVariants as fields
use Rattle.policy_syntax.specs.declared.tree.Pred as pred
use Rattle.policy_syntax.specs.declared.tree.Pred.TheVariants as preds
use Rattle.policy_syntax.specs.declared.tree.Tree as tree
use Rattle.policy_syntax.specs.declared.tree.Tree.TheVariants as trees
use Rattle.net_types.specs.Policies.{Target, Test, Pred, Policy, Name, Number, Inport, Src, Dst, Proto, Sport, Dport, Yes, Is, Not, And, Or, Drop, Pass, Block, Fwd, Match, Set, Both, Then}
use Rattle.net_types.specs.PolicyGrammar.{Field, SrcIs, DstIs, SportIs, DportIs}

-- an assignment to one field
abbrev pub field_of : field.Field → Field
field_of (fields.Src ip) = SrcIs ip.0
field_of (fields.Dst ip) = DstIs ip.0
field_of (fields.Sport n) = SportIs n
field_of (fields.Dport n) = DportIs n

-- a target; a name is the octets of its slice
abbrev pub target_of : target.Target → Target
target_of (targets.Name n) = Name n.now
target_of (targets.Number n) = Number n

-- a test
abbrev pub test_of : test.Test → Test
test_of (tests.Inport n) = Inport n
test_of (tests.Src p) = Src p
test_of (tests.Dst p) = Dst p
test_of (tests.Proto n) = Proto n
test_of (tests.Sport n) = Sport n
test_of (tests.Dport n) = Dport n

-- a predicate
abbrev pub pred_of : pred.Pred → Pred
pred_of preds.Yes = Yes
pred_of (preds.Is t s) = Is (test_of t) s
pred_of (preds.Not' p a) = Not (pred_of a)
pred_of (preds.And' p a q b) = And (pred_of a) (pred_of b)
pred_of (preds.Or' p a q b) = Or (pred_of a) (pred_of b)

-- a policy
abbrev pub policy_of : tree.Tree → Policy
policy_of trees.Drop = Drop
policy_of trees.Pass = Pass
policy_of trees.Block = Block
policy_of (trees.Fwd t s) = Fwd (target_of t) s
policy_of (trees.Match p) = Match (pred_of p)
policy_of (trees.Set a s) = Set a s
policy_of (trees.Both' p a q b) = Both (policy_of a) (policy_of b)
policy_of (trees.Then' p a q b) = Then (policy_of a) (policy_of b)
