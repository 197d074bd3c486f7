-- What is left makes the whole.
use Rattle.std.proofs.Common.{◌≡◌, ◌++◌, drop}
use Rattle.classifier.proofs.UnionLemmas.{besides}
use Rattle.classifier.proofs.gathering.joined.Given as goal

abbrev pub invariant-loop-pair : goal.invariant-loop-pair
invariant-loop-pair l = l.pairs.items ++ besides l.first (drop l.pair-index l.second) ≡ l.first ++ besides l.first l.second
