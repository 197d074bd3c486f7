use Rattle.std.proofs.Common.{take}
use Rattle.classifier.specs.Gathered.{Knows}
use Rattle.classifier.proofs.gathering.set_of.Given as goal

-- the pairs so far are in the set
abbrev pub invariant-loop-pair : goal.invariant-loop-pair
invariant-loop-pair l = Knows (take l.pair-index l.pairs) l.seen
