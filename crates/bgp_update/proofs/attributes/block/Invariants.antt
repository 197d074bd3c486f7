-- The attributes so far and those that are still read make the whole, and the types so far are marked.
use Rattle.std.proofs.Common.{◌≡◌, length}
use Rattle.net_types.specs.UpdateFormat.{with_type}
use Rattle.bgp_update.specs.Answers.{marked}
use Rattle.net_types.specs.UpdateReading.{read_attribute, read_attributes}
use Rattle.grammar.proofs.BlockLoops.{StillReads}
use Rattle.bgp_update.proofs.attributes.block.Given as goal

abbrev pub invariant-loop-left : goal.invariant-loop-left
invariant-loop-left l = StillReads read_attribute with_type (read_attributes l.block) (marked l.seen) l.all.items l.left × (length l.seen ≡ 256)

abbrev pub decreases-loop-left : goal.decreases-loop-left
decreases-loop-left l = length l.left
