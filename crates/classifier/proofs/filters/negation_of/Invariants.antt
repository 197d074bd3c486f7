use Rattle.std.proofs.Common.{◌≡◌, ◌++◌, drop}
use Rattle.classifier.specs.Lines.{negated}
use Rattle.classifier.proofs.filters.negation_of.Given as goal

-- what is left makes the whole
abbrev pub invariant-loop-x : goal.invariant-loop-x
invariant-loop-x l = l.lines.items ++ negated (drop l.x-index l.xs) ≡ negated l.xs
