-- What is left makes the whole, and the cube that was met last is past.
use Rattle.std.proofs.Common.{◌≡◌, drop}
use Rattle.classifier.specs.Lines.{add_lines}
use Rattle.classifier.specs.Seen.{Agrees}
use Rattle.block_build.specs.Bounds.{IsPast}
use Rattle.block_build.proofs.ExitLemmas.{row_received}
use Rattle.block_build.proofs.exits.push_each.Given as goal

abbrev pub invariant-loop-y : goal.invariant-loop-y
invariant-loop-y l = record {
  whole : add_lines l.lines.items (row_received l.hop l.x (drop l.y-index l.ys)) ≡ add_lines l.fn.lines.items (row_received l.hop l.x l.ys);
  agrees : Agrees l.lines.items l.seen;
  past : IsPast l.last l.lines.items;
}
