-- One more run is added.
use Rattle.std.proofs.Common.{◌+◌, List, drop, sym, ap, ◌∙◌}
use Rattle.classifier.proofs.RunLemmas.{run_added}
use Rattle.classifier.specs.Lines.{add_lines}
use Rattle.classifier.specs.Runs.{lines_in}
use Rattle.classifier.specs.declared.line.Line.{Line}
use Rattle.block_build.proofs.ExitLemmas.{received-append, row_received}
use Rattle.block_build.proofs.exits.push_runs.Goals as goal

pub loop-run-preserved : goal.loop-run-preserved
loop-run-preserved c =
    let rest : List Line = row_received c.args.hop c.args.x.now (lines_in (drop (c.loop-run.run-index + 1) c.args.runs.now)) in
    record {
      whole =
          ap (λ (lines : List Line). add_lines lines rest) c.in_ok-push_run.ensures.lines
          ∙ sym (run_added (row_received c.args.hop c.args.x.now) (received-append c.args.hop c.args.x.now) c.args.runs.now c.loop-run.run-index c.run-item.result c.loop-run-test.true c.run-item.is c.loop-run.lines.items)
          ∙ c.loop-run.invariant.whole;
      agrees = c.in_ok-push_run.ensures.agrees;
    }
