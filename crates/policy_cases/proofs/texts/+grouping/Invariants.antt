use Rattle.policy_syntax.specs.Views.{policy_of}
use Rattle.policy_isolate.specs.Measures.{nodes_of}
use Rattle.policy_cases.proofs.texts.+grouping.Given as goal

abbrev pub decreases-grouping : goal.decreases-grouping
decreases-grouping l = nodes_of (policy_of l.tree.now)
