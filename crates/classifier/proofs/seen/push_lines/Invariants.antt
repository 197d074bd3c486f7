use Rattle.std.proofs.Common.{◌≡◌}
use Rattle.classifier.specs.Lines.{add_lines}
use Rattle.classifier.specs.Seen.{Agrees}
use Rattle.classifier.proofs.seen.push_lines.Given as goal

-- the rules that were taken are added
abbrev pub invariant-loop-next : goal.invariant-loop-next
invariant-loop-next l = record {
  whole : l.lines.items ≡ add_lines l.fn.lines.items l.yielded;
  agrees : Agrees l.lines.items l.seen;
}
