use Rattle.std.proofs.Common.{◌≡◌}
use Rattle.std.specs.Option.{option_map}
use Rattle.std.specs.Map.Iter.{deref_pair}
use Rattle.ordered_map.specs.Entries.{entries_of, first_or, head_of}
use Rattle.ordered_map.proofs.tree.first.Given as goal

abbrev pub invariant-loop-here : goal.invariant-loop-here
invariant-loop-here g l = head_of (entries_of l.tree) ≡ first_or (head_of (entries_of l.here)) (option_map deref_pair l.best)
