-- The columns so far are added.
use Rattle.std.proofs.Common.{◌++◌, ℕ, map, take}
use Rattle.net_types.specs.Sets.{SameMembers, union_over}
use Rattle.policy_compile.specs.Columns.{AreCarried, given}
use Rattle.policy_compile.specs.Groups.{AreMoved, ways_of}
use Rattle.policy_compile.specs.Given.{given_by}
use Rattle.policy_compile.specs.Paths.{after_item}
use Rattle.policy_compile.proofs.groups.Groups.add_after.Given as goal

abbrev pub invariant-loop-column : goal.invariant-loop-column
invariant-loop-column l = record {
  given : (k : ℕ) → SameMembers (given_by l.locations l.self k)
      (given_by l.locations l.fn.self k ++ map (after_item l.set l.loc) (union_over (ways_of l.locations l.others.ways.sets.items) (given l.others.columns.sets.sets.items (take l.column-index l.column-items) k)));
  moved : AreMoved l.locations l.loc l.others.ways.sets.items l.self.ways.sets.items l.ways.noted.items;
  carried : AreCarried l.others.columns.sets.sets.items l.self.columns.sets.sets.items l.sets.noted.items;
}
