-- The results of the lists so far.
use Rattle.std.proofs.Common.{◌≡◌, take}
use Rattle.policy_compile.specs.Rows.{joined}
use Rattle.policy_compile.proofs.rows.joined_of.Given as goal

abbrev pub invariant-loop-number : goal.invariant-loop-number
invariant-loop-number l = l.all.items ≡ joined l.lists (take l.number-index l.numbers)
