-- The numbers of the near sets so far.
use Rattle.policy_compile.specs.Rows.{AreNear}
use Rattle.policy_compile.proofs.rows.near.Given as goal

abbrev pub invariant-loop-number : goal.invariant-loop-number
invariant-loop-number l = AreNear l.sets l.lists l.word l.number l.numbers.items
