-- The moves so far, and the prefixes that are left.
use Rattle.std.specs.FinMap.{entries}
use Rattle.prefix_map.specs.Entries.{seen_entries}
use Rattle.prefix_classes.proofs.MoveLemmas.{ArePlanned}
use Rattle.prefix_classes.proofs.moves.moves_by.Given as goal

abbrev pub invariant-loop-prefix : goal.invariant-loop-prefix
invariant-loop-prefix l = ArePlanned l.grouping (entries l.tags.map) (seen_entries l.prefix-iterator.rest.items) l.moves.items
