use Rattle.std.proofs.Common.{◌≡◌, [], ◌++◌, take}
use Rattle.classifier.specs.Lines.{tightened}
use Rattle.classifier.specs.Runs.{lines_in}
use Rattle.classifier.proofs.tight.push_run.Given as goal

-- the rules before the place are kept, where none before them holds them
abbrev pub invariant-loop-place : goal.invariant-loop-place
invariant-loop-place l = l.lines.items ≡ tightened [] (lines_in l.runs ++ take l.place l.run)
