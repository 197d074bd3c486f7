use Rattle.std.proofs.Common.{◌≡◌, drop}
use Rattle.classifier.specs.Lines.{add_lines, row}
use Rattle.classifier.specs.Seen.{Agrees}
use Rattle.classifier.proofs.product.push_row.Given as goal

-- what is left makes the whole
abbrev pub invariant-loop-y : goal.invariant-loop-y
invariant-loop-y l = record {
  whole : add_lines l.lines.items (row l.join l.x (drop l.y-index l.ys)) ≡ add_lines l.fn.lines.items (row l.join l.x l.ys);
  agrees : Agrees l.lines.items l.seen;
}
