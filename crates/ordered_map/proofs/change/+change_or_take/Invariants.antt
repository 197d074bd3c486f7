use Rattle.std.proofs.Common.{length}
use Rattle.ordered_map.specs.Entries.{entries_of}
use Rattle.ordered_map.proofs.change.+change_or_take.Given as goal

abbrev pub decreases-change_or_take : goal.decreases-change_or_take
decreases-change_or_take g l = length (entries_of l.tree.now)
