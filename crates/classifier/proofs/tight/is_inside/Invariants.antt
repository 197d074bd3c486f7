use Rattle.std.proofs.Common.{◌≡◌, drop}
use Rattle.classifier.specs.Lines.{is_within_some}
use Rattle.classifier.proofs.tight.is_inside.Given as goal

-- what is left decides
abbrev pub invariant-loop-earlier : goal.invariant-loop-earlier
invariant-loop-earlier l = is_within_some (drop l.earlier-index l.lines) l.next ≡ is_within_some l.lines l.next
