use Rattle.std.proofs.Common.{◌≡◌, drop}
use Rattle.classifier.specs.Items.{add_all}
use Rattle.classifier.specs.Gathered.{Knows}
use Rattle.classifier.proofs.gathering.push_each.Given as goal

-- what is left makes the whole, and the set has the results
abbrev pub invariant-loop-pair : goal.invariant-loop-pair
invariant-loop-pair l = (add_all l.results (drop l.pair-index l.pair-items) ≡ add_all l.fn.results l.others) × Knows l.results l.seen
