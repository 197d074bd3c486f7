use Rattle.std.proofs.Common.{length}
use Rattle.policy_compile.proofs.apart.+has_some_many.Given as goal

abbrev pub decreases-has_some_many : goal.decreases-has_some_many
decreases-has_some_many l = length l.sets.now
