use Rattle.policy_syntax.specs.Views.{policy_of}
use Rattle.policy_isolate.specs.Measures.{nodes_of}
use Rattle.policy_compile.proofs.width.+narrow.Given as goal

abbrev pub decreases-narrow : goal.decreases-narrow
decreases-narrow l = nodes_of (policy_of l.tree.now)
