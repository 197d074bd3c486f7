use Rattle.classifier.specs.Classifiers.{lines_of}
use Rattle.policy_syntax.specs.Views.{policy_of}
use Rattle.registry.specs.Registered.{named}
use Rattle.exchange_core.proofs.Compiled.{compiles}
use Rattle.exchange_core.proofs.policy_text.compiled.Goals as goal

pub returns-clause-compiled : goal.returns-clause-compiled
returns-clause-compiled c =
    compiles (named c.args.names.now) c.in_ok-text.text c.args.text.now (policy_of c.args.tree.now) (lines_of c.in_ok-classifier.classifier) c.in_ok-text.ensures c.requires
    c.in_ok-classifier.ensures.means c.in_ok-classifier.ensures.cubes
