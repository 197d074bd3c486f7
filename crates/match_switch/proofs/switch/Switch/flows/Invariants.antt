-- The rules so far and those of what is left are all.
use Rattle.std.proofs.Common.{◌≡◌, ◌++◌}
use Rattle.std.specs.FinMap.{entries}
use Rattle.net_types.specs.Sets.{union_over}
use Rattle.events.specs.Fits.{flows_of}
use Rattle.match_switch.proofs.switch.Switch.flows.Given as goal

abbrev pub invariant-loop-pair : goal.invariant-loop-pair
invariant-loop-pair l = l.flows ++ union_over flows_of l.pair-iterator ≡ union_over flows_of (entries l.self.table)
