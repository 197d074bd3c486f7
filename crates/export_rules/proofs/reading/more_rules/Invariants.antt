use Rattle.std.proofs.Common.{length}
use Rattle.std.specs.Prelude.{codes}
use Rattle.grammar.specs.Octets.{among}
use Rattle.grammar.proofs.RepeatLoops.{StillReads}
use Rattle.net_types.specs.ExportTexts.{put_last}
use Rattle.net_types.specs.ExportReading.{read_more_rule, read_more_rules}
use Rattle.export_rules.proofs.reading.more_rules.Given as goal

abbrev pub invariant-loop-left : goal.invariant-loop-left
invariant-loop-left l = StillReads (among (codes ";")) put_last read_more_rule l.size (read_more_rules l.fn.first.items l.size l.rest) l.all.items l.left

abbrev pub decreases-loop-left : goal.decreases-loop-left
decreases-loop-left l = length l.left
