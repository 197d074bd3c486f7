-- What is sought is among the run and what stands right of it.
use Rattle.std.proofs.Common.{◌≡◌, ◌++◌, IsTrue}
use Rattle.std.specs.FinMap.Entries.{find, is_sorted}
use Rattle.ordered_map.specs.Entries.{entries_of}
use Rattle.ordered_map.specs.Runs.{run_entries}
use Rattle.ordered_map.proofs.tree.value_of.Given as goal

abbrev pub invariant-loop-here : goal.invariant-loop-here
invariant-loop-here g l = IsTrue (is_sorted g.K.Ord.cmp (run_entries l.run ++ entries_of l.here)) × (find g.K.Ord.cmp l.key (entries_of l.tree) ≡ find g.K.Ord.cmp l.key (run_entries l.run ++ entries_of l.here))
