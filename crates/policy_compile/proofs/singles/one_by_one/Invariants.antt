-- The columns so far are taken apart.
use Rattle.std.proofs.Common.{ℕ, take}
use Rattle.net_types.specs.Sets.{SameMembers, union_over}
use Rattle.policy_compile.specs.Columns.{AreCarried, given}
use Rattle.policy_compile.specs.Groups.{alone, ways_of}
use Rattle.policy_compile.proofs.singles.one_by_one.Given as goal

abbrev pub invariant-loop-column : goal.invariant-loop-column
invariant-loop-column l = record {
  given : (k : ℕ) → SameMembers (alone l.locations (given l.made.sets.sets.items l.made.columns.items k))
      (union_over (ways_of l.locations l.groups.ways.sets.items) (given l.groups.columns.sets.sets.items (take l.column-index l.column-items) k));
  carried : AreCarried l.groups.columns.sets.sets.items l.made.sets.sets.items l.asked.noted.items;
}
