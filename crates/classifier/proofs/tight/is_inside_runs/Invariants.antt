use Rattle.std.proofs.Common.{◌≡◌, drop}
use Rattle.classifier.specs.Lines.{is_within_some}
use Rattle.classifier.specs.Runs.{lines_in}
use Rattle.classifier.proofs.tight.is_inside_runs.Given as goal

-- what is left decides
abbrev pub invariant-loop-run : goal.invariant-loop-run
invariant-loop-run l = is_within_some (lines_in (drop l.run-index l.runs)) l.next ≡ is_within_some (lines_in l.runs) l.next
