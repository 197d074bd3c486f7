-- The items so far and those that are still read make the whole.
use Rattle.std.proofs.Common.{length}
use Rattle.net_types.specs.UpdateReading.{read_segment_by}
use Rattle.grammar.specs.FormatReading.{read_items}
use Rattle.bgp_update.specs.Answers.{numbers_of}
use Rattle.grammar.proofs.BlockLoops.{StillReads}
use Rattle.bgp_update.proofs.attributes.segments.Given as goal

abbrev pub invariant-loop-left : goal.invariant-loop-left
invariant-loop-left l = StillReads {S = Unit {0}} (λ _. read_segment_by l.size (numbers_of l.size)) (λ _ _. tt) (read_items (read_segment_by l.size (numbers_of l.size)) l.block) tt l.all l.left

abbrev pub decreases-loop-left : goal.decreases-loop-left
decreases-loop-left l = length l.left
