use Rattle.policy_syntax.specs.Views.{policy_of}
use Rattle.policy_isolate.specs.Measures.{nodes_of}
use Rattle.policy_compile.proofs.atoms.+behind_paths.Given as goal

abbrev pub decreases-behind_paths : goal.decreases-behind_paths
decreases-behind_paths l = nodes_of (policy_of l.tree.now)
