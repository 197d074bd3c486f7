use Rattle.std.proofs.Common.{◌≡◌, [], take}
use Rattle.classifier.specs.Lines.{tightened}
use Rattle.classifier.specs.Runs.{lines_in}
use Rattle.classifier.proofs.tight.tight_lines.Given as goal

-- the rules of the runs before the place are kept, where none before them holds them
abbrev pub invariant-loop-place : goal.invariant-loop-place
invariant-loop-place l = l.lines.items ≡ tightened [] (lines_in (take l.place l.runs.items))
