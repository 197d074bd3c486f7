-- Of the columns so far those are left behind which the predicate holds.
use Rattle.std.proofs.Common.{◌≡◌, ℕ, Some, filter, take}
use Rattle.std.specs.List.{slice_get}
use Rattle.net_types.specs.declared.cube.Cube.{Cube}
use Rattle.policy_syntax.specs.Views.{pred_of}
use Rattle.policy_compile.specs.Columns.{AreBelow, AreKept, given}
use Rattle.policy_compile.specs.Paths.{pred_at}
use Rattle.policy_compile.proofs.stages.kept_columns.Given as goal

abbrev pub invariant-loop-column : goal.invariant-loop-column
invariant-loop-column l = record {
  asked : AreKept l.within.cubes.now (pred_of l.pred) l.columns.sets.sets.items l.made.sets.sets.items l.asked.noted.items;
  below : (n : ℕ) → AreBelow n l.columns.columns.items → AreBelow n l.made.columns.items;
  cubes : l.within.cubes.now ≡ l.fn.within.cubes.now;
  given : (k : ℕ) (m : Cube) → slice_get l.fn.within.cubes.now k ≡ Some m
      → given l.made.sets.sets.items l.made.columns.items k ≡ filter (λ i. pred_at m i.set (pred_of l.pred)) (given l.columns.sets.sets.items (take l.column-index l.column-items) k);
}
