use Rattle.policy_syntax.specs.Views.{policy_of}
use Rattle.policy_isolate.specs.Measures.{nodes_of}
use Rattle.policy_compile.proofs.atoms.+atoms_of.Given as goal

abbrev pub decreases-atoms_of : goal.decreases-atoms_of
decreases-atoms_of l = nodes_of (policy_of l.tree.now)
