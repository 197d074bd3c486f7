use Rattle.std.proofs.Common.{length}
use Rattle.ordered_map.specs.Entries.{entries_of}
use Rattle.ordered_map.proofs.values.+change_at.Given as goal

abbrev pub decreases-change_at : goal.decreases-change_at
decreases-change_at g l = length (entries_of l.tree.now)
