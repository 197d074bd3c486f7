-- The lines so far.
use Rattle.std.proofs.Common.{◌≡◌, ◌<◌, ◌-◌, ◌/◌, ℕ, Some, length, take}
use Rattle.std.specs.List.{slice_get}
use Rattle.net_types.specs.Sets.{SameMembers}
use Rattle.classifier.specs.declared.line.Line.{Line}
use Rattle.classifier.specs.Meaning.{cubes_of}
use Rattle.policy_compile.specs.Columns.{given}
use Rattle.policy_compile.specs.Groups.{alone}
use Rattle.policy_compile.specs.Rows.{AreLists, AreNear}
use Rattle.policy_compile.proofs.rows.rows_of.Given as goal

abbrev pub invariant-loop-place : goal.invariant-loop-place
invariant-loop-place l = record {
  lists : AreLists l.locations l.columns.columns.items l.rows;
  wide : length l.rows ≡ length l.columns.sets.sets.items;
  near : 0 < l.place → AreNear l.columns.sets.sets.items l.rows ((l.place - 1) / 64) (length l.columns.sets.sets.items) l.nears.items;
  long : length l.lines.items ≡ l.place;
  cubes : cubes_of l.lines.items ≡ take l.place l.cubes;
  gives : (k : ℕ) (x : Line) → slice_get l.lines.items k ≡ Some x → SameMembers x.results (alone l.locations (given l.columns.sets.sets.items l.columns.columns.items k));
}
