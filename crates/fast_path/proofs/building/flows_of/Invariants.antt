-- With those of the rest they are all.
use Rattle.std.proofs.Common.{◌≡◌, ◌++◌, drop}
use Rattle.net_types.specs.Sets.{union_over}
use Rattle.events.specs.Fits.{flows_of}
use Rattle.fast_path.proofs.building.flows_of.Given as goal

abbrev pub invariant-loop-pair : goal.invariant-loop-pair
invariant-loop-pair l = l.flows ++ union_over flows_of (drop l.pair-index l.blocks) ≡ union_over flows_of l.blocks
