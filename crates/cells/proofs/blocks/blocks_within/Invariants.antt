-- The blocks of the cells so far.
use Rattle.std.proofs.Common.{◌-◌, length}
use Rattle.cells.proofs.BlockLemmas.{HasBefore}
use Rattle.cells.proofs.blocks.blocks_within.Given as goal

abbrev pub invariant-loop-place : goal.invariant-loop-place
invariant-loop-place l = HasBefore l.cells l.outer l.blocks l.place

abbrev pub decreases-loop-place : goal.decreases-loop-place
decreases-loop-place l = length l.cells - l.place
