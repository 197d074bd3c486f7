-- The sets so far.
use Rattle.std.proofs.Common.{◌≡◌, take}
use Rattle.policy_compile.proofs.set_table.SetTable.twin.Given as goal

abbrev pub invariant-loop-set : goal.invariant-loop-set
invariant-loop-set l = l.sets.items ≡ take l.set-index l.set-items
