use Rattle.std.proofs.Common.{arith}
use Rattle.std.specs.Prelude.{codes}
use Rattle.net_types.specs.PolicyGrammar.{with_field}
use Rattle.grammar.specs.Octets.{among}
use Rattle.net_types.specs.PolicyReading.{read_set, read_sets}
use Rattle.grammar.proofs.RepeatLoops.{starts_reading}
use Rattle.policy_syntax.proofs.fields.all_assigned.Goals as goal

pub loop-left-init : goal.loop-left-init
unfolding read_sets
loop-left-init c = record { reads = starts_reading (among (codes ",")) with_field read_set c.args.size c.args.first c.args.rest.now; left_len = omega arith }
