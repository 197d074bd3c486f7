-- The items so far and those that are still read make the whole.
use Rattle.std.proofs.Common.{length}
use Rattle.net_types.specs.UpdateReading.{read_prefix, read_prefixes}
use Rattle.grammar.proofs.BlockLoops.{StillReads}
use Rattle.bgp_update.proofs.prefixes.prefixes.Given as goal

abbrev pub invariant-loop-left : goal.invariant-loop-left
invariant-loop-left l = StillReads {S = Unit {0}} (λ _. read_prefix) (λ _ _. tt) (read_prefixes l.block) tt l.all.items l.left

abbrev pub decreases-loop-left : goal.decreases-loop-left
decreases-loop-left l = length l.left
