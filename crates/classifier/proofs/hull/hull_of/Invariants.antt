use Rattle.std.proofs.Common.{◌≡◌, drop}
use Rattle.classifier.specs.Hulls.{hull_with}
use Rattle.classifier.proofs.hull.hull_of.Given as goal

-- what is left makes the whole
abbrev pub invariant-loop-line : goal.invariant-loop-line
invariant-loop-line l = hull_with l.all (drop l.line-index l.lines) ≡ hull_with l.fn.first l.lines
