use Rattle.std.proofs.Common.{◌++◌, length}
use Rattle.ordered_map.specs.Entries.{entries_of}
use Rattle.ordered_map.proofs.values.+change_beside.Given as goal

abbrev pub decreases-change_beside : goal.decreases-change_beside
decreases-change_beside g l = length (l.run.now ++ entries_of l.tree.now)
