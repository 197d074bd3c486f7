use Rattle.classifier.specs.Classifiers.{lines_of}
use Rattle.policy_syntax.specs.Views.{policy_of}
use Rattle.registry.specs.Registered.{named}
use Rattle.plan_cases.proofs.Compiled.{compiles}
use Rattle.plan_cases.proofs.programs.compiled.Goals as goal

pub returns : goal.returns
returns c = compiles (named c.args.names.now) c.args.text.now (policy_of c.in_ok-tree.tree) (lines_of c.in_ok-made.made) c.in_ok-tree.ensures c.in_ok-made.ensures.means c.in_ok-made.ensures.cubes
