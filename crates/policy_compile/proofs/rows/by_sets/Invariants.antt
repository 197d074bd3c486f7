-- The results of the columns so far.
use Rattle.std.proofs.Common.{◌≡◌, length, take}
use Rattle.policy_compile.specs.Rows.{AreLists}
use Rattle.policy_compile.proofs.rows.by_sets.Given as goal

abbrev pub invariant-loop-column : goal.invariant-loop-column
invariant-loop-column l = record {
  are : AreLists l.locations (take l.column-index l.column-items) l.lists.items;
  long : length l.lists.items ≡ length l.columns.sets.sets.items;
}
