-- The results of the lists so far.
use Rattle.std.proofs.Common.{take}
use Rattle.net_types.specs.Sets.{SameMembers}
use Rattle.policy_compile.specs.Rows.{joined}
use Rattle.policy_compile.proofs.rows.gathered_of.Given as goal

abbrev pub invariant-loop-number : goal.invariant-loop-number
invariant-loop-number l = SameMembers l.all (joined l.lists (take l.number-index l.numbers))
