use Rattle.std.proofs.Common.{◌≡◌, ◌++◌, length}
use Rattle.classifier.specs.Runs.{lines_in}
use Rattle.classifier.proofs.runs.runs_by.Given as goal

-- what is left makes the whole
abbrev pub invariant-loop-left : goal.invariant-loop-left
invariant-loop-left l = lines_in l.runs.items ++ l.left ≡ l.lines

abbrev pub decreases-loop-left : goal.decreases-loop-left
decreases-loop-left l = length l.left
