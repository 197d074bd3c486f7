use Rattle.std.proofs.Common.{length, ◌++◌}
use Rattle.ordered_map.specs.Entries.{entries_of}
use Rattle.ordered_map.proofs.put.+put_beside.Given as goal

abbrev pub decreases-put_beside : goal.decreases-put_beside
decreases-put_beside g l = length (l.run.now ++ entries_of l.tree.now)
