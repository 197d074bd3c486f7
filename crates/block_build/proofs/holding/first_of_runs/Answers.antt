-- One more run.
use Rattle.std.proofs.Common.{◌+◌, drop, sym, ap, ◌∙◌}
use Rattle.classifier.specs.Runs.{lines_in}
use Rattle.block_build.proofs.ClosedLemmas.{first_here, first_later, runs_more}
use Rattle.block_build.specs.Closed.{first_holding}
use Rattle.block_build.proofs.holding.first_of_runs.Goals as goal

pub returns-in-Some : goal.returns-in-Some
returns-in-Some c =
    let run = c.run-item.result in
    sym (ap (first_holding c.args.cube.now) (runs_more c.args.runs.now c.loop-run.run-index c.run-item.result c.loop-run-test.true c.run-item.is)
    ∙ first_here c.args.cube.now run.lines.now (lines_in (drop (c.loop-run.run-index + 1) c.args.runs.now)) c.in-Some.y.now (sym c.in-Some.ensures))
    ∙ c.loop-run.invariant

pub loop-run-preserved : goal.loop-run-preserved
loop-run-preserved c =
    let run = c.run-item.result in
    sym (ap (first_holding c.args.cube.now) (runs_more c.args.runs.now c.loop-run.run-index c.run-item.result c.loop-run-test.true c.run-item.is)
    ∙ first_later c.args.cube.now run.lines.now (lines_in (drop (c.loop-run.run-index + 1) c.args.runs.now)) (sym c.in_default.ensures))
    ∙ c.loop-run.invariant
