use Rattle.std.proofs.Common.{◌≤◌, length}
use Rattle.std.specs.Prelude.{codes}
use Rattle.net_types.specs.PolicyGrammar.{with_field}
use Rattle.grammar.specs.Octets.{among}
use Rattle.net_types.specs.PolicyReading.{read_set, read_sets}
use Rattle.grammar.proofs.RepeatLoops.{StillReads}
use Rattle.policy_syntax.proofs.fields.all_assigned.Given as goal

abbrev pub invariant-loop-left : goal.invariant-loop-left
invariant-loop-left l = record { reads : StillReads (among (codes ",")) with_field read_set l.size (read_sets l.fn.first l.size l.rest) l.all l.left; left_len : length l.left ≤ length l.rest }

abbrev pub decreases-loop-left : goal.decreases-loop-left
decreases-loop-left l = length l.left
