-- What is left without those to come is what all leave.
use Rattle.std.proofs.Common.{◌≡◌, drop}
use Rattle.recompile.specs.Units.{without_each}
use Rattle.recompile.proofs.swap.Built.take_each.Given as goal

abbrev pub invariant-loop-pair : goal.invariant-loop-pair
invariant-loop-pair l = without_each (drop l.pair-index l.pairs) l.self ≡ without_each l.pairs l.fn.self
