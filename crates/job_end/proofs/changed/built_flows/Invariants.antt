-- With those of the rest they are all.
use Rattle.std.proofs.Common.{◌≡◌, ◌++◌, drop}
use Rattle.net_types.specs.Sets.{union_over}
use Rattle.events.specs.Fits.{flows_of}
use Rattle.job_end.specs.Rebuilt.{blocks_of}
use Rattle.job_end.proofs.changed.built_flows.Given as goal

abbrev pub invariant-loop-pair : goal.invariant-loop-pair
invariant-loop-pair l = l.flows ++ union_over flows_of (blocks_of l.built (drop l.pair-index l.pairs)) ≡ union_over flows_of (blocks_of l.built l.pairs)
