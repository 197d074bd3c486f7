-- What is left makes the whole.
use Rattle.std.proofs.Common.{◌≡◌, drop}
use Rattle.classifier.specs.Lines.{add_lines}
use Rattle.classifier.specs.Seen.{Agrees}
use Rattle.block_build.specs.Groups.{lines_within}
use Rattle.block_build.proofs.ExitLemmas.{row_received}
use Rattle.block_build.proofs.exits.push_groups.Given as goal

abbrev pub invariant-loop-group : goal.invariant-loop-group
invariant-loop-group l = record {
  whole : add_lines l.lines.items (row_received l.hop l.x (lines_within (drop l.group-index l.groups))) ≡ add_lines l.fn.lines.items (row_received l.hop l.x (lines_within l.groups));
  agrees : Agrees l.lines.items l.seen;
}
