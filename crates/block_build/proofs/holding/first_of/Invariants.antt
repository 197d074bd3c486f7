-- What is left decides.
use Rattle.std.proofs.Common.{◌≡◌, drop}
use Rattle.block_build.specs.Closed.{first_holding}
use Rattle.block_build.proofs.holding.first_of.Given as goal

abbrev pub invariant-loop-y : goal.invariant-loop-y
invariant-loop-y l = first_holding l.cube (drop l.y-index l.ys) ≡ first_holding l.cube l.ys
