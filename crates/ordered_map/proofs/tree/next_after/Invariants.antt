-- What is sought is among the run and what stands right of it, or is the best so far.
use Rattle.std.proofs.Common.{◌≡◌, ◌++◌, IsTrue}
use Rattle.std.specs.Option.{option_map}
use Rattle.std.specs.Map.Iter.{deref_pair}
use Rattle.std.specs.FinMap.Entries.{is_sorted}
use Rattle.ordered_map.specs.Entries.{entries_of, above, first_or, head_of}
use Rattle.ordered_map.specs.Runs.{run_entries}
use Rattle.ordered_map.proofs.tree.next_after.Given as goal

abbrev pub invariant-loop-here : goal.invariant-loop-here
invariant-loop-here g l = IsTrue (is_sorted g.K.Ord.cmp (run_entries l.run ++ entries_of l.here)) × (head_of (above g.K.Ord.cmp l.key (entries_of l.tree)) ≡ first_or (head_of (above g.K.Ord.cmp l.key (run_entries l.run ++ entries_of l.here))) (option_map deref_pair l.best))
