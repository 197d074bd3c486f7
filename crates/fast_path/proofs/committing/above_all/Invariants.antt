-- the number is above those of the classes so far
use Rattle.std.proofs.Common.{take}
use Rattle.fast_path.specs.Committing.{HaveTagsBelow}
use Rattle.fast_path.proofs.committing.above_all.Given as goal

abbrev pub invariant-loop-class : goal.invariant-loop-class
invariant-loop-class l = HaveTagsBelow l.most (take l.class-index l.fresh)
