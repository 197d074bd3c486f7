-- What is left makes the whole.
use Rattle.std.proofs.Common.{◌≡◌, drop}
use Rattle.classifier.specs.Lines.{add_lines}
use Rattle.classifier.specs.Runs.{lines_in}
use Rattle.classifier.specs.Seen.{Agrees}
use Rattle.block_build.proofs.ExitLemmas.{row_received}
use Rattle.block_build.proofs.exits.push_runs.Given as goal

abbrev pub invariant-loop-run : goal.invariant-loop-run
invariant-loop-run l = record {
  whole : add_lines l.lines.items (row_received l.hop l.x (lines_in (drop l.run-index l.runs))) ≡ add_lines l.fn.lines.items (row_received l.hop l.x (lines_in l.runs));
  agrees : Agrees l.lines.items l.seen;
}
