use Rattle.policy_syntax.specs.Views.{policy_of}
use Rattle.policy_isolate.specs.Measures.{nodes_of}
use Rattle.policy_compile.proofs.mods.+mods_of.Given as goal

abbrev pub decreases-mods_of : goal.decreases-mods_of
decreases-mods_of l = nodes_of (policy_of l.tree.now)
