-- What is left makes the whole.
use Rattle.std.proofs.Common.{◌≡◌, ◌++◌, length}
use Rattle.block_build.specs.Groups.{lines_within}
use Rattle.block_build.proofs.groups.groups_of.Given as goal

abbrev pub invariant-loop-left : goal.invariant-loop-left
invariant-loop-left l = lines_within l.groups.items ++ l.left ≡ l.lines

abbrev pub decreases-loop-left : goal.decreases-loop-left
decreases-loop-left l = length l.left
