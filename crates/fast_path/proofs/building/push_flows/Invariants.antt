-- Those of the rules so far.
use Rattle.std.proofs.Common.{◌≡◌, ◌++◌, take}
use Rattle.events.specs.Fits.{flows_of}
use Rattle.fast_path.proofs.building.push_flows.Given as goal

abbrev pub invariant-loop-rule : goal.invariant-loop-rule
invariant-loop-rule l = l.flows ≡ l.fn.flows ++ flows_of (l.pair, take l.rule-index l.rules)
