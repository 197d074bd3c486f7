-- The columns so far are turned.
use Rattle.std.proofs.Common.{ℕ, length, take}
use Rattle.net_types.specs.Sets.{SameMembers}
use Rattle.policy_compile.specs.Columns.{AreBelow, AreCarried, given}
use Rattle.policy_compile.specs.Groups.{turned}
use Rattle.policy_compile.proofs.regroup.turn.Given as goal

abbrev pub invariant-loop-column : goal.invariant-loop-column
invariant-loop-column l = record {
  given : (j : ℕ) → SameMembers (given l.made.sets.sets.items l.made.columns.items j) (turned l.sets (take l.column-index l.column-items) j);
  below : AreBelow (length l.columns.sets.sets.items) l.made.columns.items;
  carried : AreCarried l.sets l.made.sets.sets.items l.asked.noted.items;
}
