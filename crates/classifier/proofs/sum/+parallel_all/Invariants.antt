use Rattle.std.proofs.Common.{length}
use Rattle.classifier.proofs.sum.+parallel_all.Given as goal

abbrev pub decreases-parallel_all : goal.decreases-parallel_all
decreases-parallel_all l = length l.parts.now
