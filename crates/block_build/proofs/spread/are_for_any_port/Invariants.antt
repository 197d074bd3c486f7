-- What is left decides.
use Rattle.std.proofs.Common.{◌≡◌, drop}
use Rattle.block_build.specs.Right.{are_for_any_port}
use Rattle.block_build.proofs.spread.are_for_any_port.Given as goal

abbrev pub invariant-loop-x : goal.invariant-loop-x
invariant-loop-x l = are_for_any_port (drop l.x-index l.xs) ≡ are_for_any_port l.xs
