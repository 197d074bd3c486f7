use Rattle.policy_syntax.specs.Views.{policy_of}
use Rattle.policy_isolate.specs.Measures.{nodes_of}
use Rattle.policy_compile.proofs.locations.+push_locations.Given as goal

abbrev pub decreases-push_locations : goal.decreases-push_locations
decreases-push_locations g l = nodes_of (policy_of l.tree.now)
