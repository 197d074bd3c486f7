-- What is left decides.
use Rattle.std.proofs.Common.{◌≡◌, drop}
use Rattle.classifier.specs.Runs.{lines_in}
use Rattle.block_build.specs.Closed.{first_holding}
use Rattle.block_build.proofs.holding.first_of_runs.Given as goal

abbrev pub invariant-loop-run : goal.invariant-loop-run
invariant-loop-run l = first_holding l.cube (lines_in (drop l.run-index l.runs)) ≡ first_holding l.cube (lines_in l.runs)
