-- What is left makes the whole.
use Rattle.std.proofs.Common.{◌≡◌, [], drop}
use Rattle.classifier.specs.Lines.{add_lines}
use Rattle.classifier.specs.Seen.{Agrees}
use Rattle.block_build.specs.Spreads.{restricted}
use Rattle.block_build.proofs.spread.restricted.Given as goal

abbrev pub invariant-loop-x : goal.invariant-loop-x
invariant-loop-x l = record {
  whole : add_lines l.lines.items (restricted l.port (drop l.x-index l.xs)) ≡ add_lines [] (restricted l.port l.xs);
  agrees : Agrees l.lines.items l.seen;
}
