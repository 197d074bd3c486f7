-- Nothing is found yet.
use Rattle.block_build.proofs.tables.Tables.find.Given as goal

abbrev pub invariant-loop-number : goal.invariant-loop-number
invariant-loop-number l = Unit
