-- What is left decides.
use Rattle.std.proofs.Common.{◌≡◌, drop}
use Rattle.block_build.specs.Closed.{first_holding}
use Rattle.block_build.specs.Groups.{lines_within}
use Rattle.block_build.proofs.holding.first_holding.Given as goal

abbrev pub invariant-loop-group : goal.invariant-loop-group
invariant-loop-group l = first_holding l.cube (lines_within (drop l.group-index l.groups)) ≡ first_holding l.cube (lines_within l.groups)
