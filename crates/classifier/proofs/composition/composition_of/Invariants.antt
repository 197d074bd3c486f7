use Rattle.std.proofs.Common.{◌≡◌, [], drop}
use Rattle.classifier.specs.Lines.{add_lines, composed}
use Rattle.classifier.specs.Seen.{Agrees}
use Rattle.classifier.proofs.composition.composition_of.Given as goal

-- what is left makes the whole
abbrev pub invariant-loop-x : goal.invariant-loop-x
invariant-loop-x l = record {
  whole : add_lines l.lines.items (composed (drop l.x-index l.xs) l.ys) ≡ add_lines [] (composed l.xs l.ys);
  agrees : Agrees l.lines.items l.seen;
}
