use Rattle.std.proofs.Common.{◌≡◌, drop}
use Rattle.classifier.specs.declared.join.Join.TheVariants.{Union}
use Rattle.classifier.specs.Lines.{add_lines, row, pulled}
use Rattle.classifier.specs.Runs.{lines_in}
use Rattle.classifier.specs.Seen.{Agrees}
use Rattle.classifier.proofs.composition.push_rows_behind.Given as goal

-- what is left makes the whole
abbrev pub invariant-loop-run : goal.invariant-loop-run
invariant-loop-run l = record {
  whole : add_lines l.lines.items (row Union l.x (pulled l.first (lines_in (drop l.run-index l.runs)))) ≡ add_lines l.fn.lines.items (row Union l.x (pulled l.first (lines_in l.runs)));
  agrees : Agrees l.lines.items l.seen;
}
