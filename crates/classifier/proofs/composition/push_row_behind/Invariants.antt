use Rattle.std.proofs.Common.{◌≡◌, drop}
use Rattle.classifier.specs.declared.join.Join.TheVariants.{Union}
use Rattle.classifier.specs.Lines.{add_lines, pulled, row}
use Rattle.classifier.specs.Seen.{Agrees}
use Rattle.classifier.proofs.composition.push_row_behind.Given as goal

-- what is left makes the whole
abbrev pub invariant-loop-y : goal.invariant-loop-y
invariant-loop-y l = record {
  whole : add_lines l.lines.items (row Union l.x (pulled l.first (drop l.y-index l.ys))) ≡ add_lines l.fn.lines.items (row Union l.x (pulled l.first l.ys));
  agrees : Agrees l.lines.items l.seen;
}
