use Rattle.std.proofs.Common.{◌≡◌, drop}
use Rattle.classifier.specs.Lines.{add_lines, row}
use Rattle.classifier.specs.Runs.{lines_in}
use Rattle.classifier.specs.Seen.{Agrees}
use Rattle.classifier.proofs.product.push_rows.Given as goal

-- what is left makes the whole
abbrev pub invariant-loop-run : goal.invariant-loop-run
invariant-loop-run l = record {
  whole : add_lines l.lines.items (row l.join l.x (lines_in (drop l.run-index l.runs))) ≡ add_lines l.fn.lines.items (row l.join l.x (lines_in l.runs));
  agrees : Agrees l.lines.items l.seen;
}
