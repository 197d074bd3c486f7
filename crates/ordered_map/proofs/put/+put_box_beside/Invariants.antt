use Rattle.std.proofs.Common.{length, ◌++◌}
use Rattle.ordered_map.specs.Entries.{entries_of}
use Rattle.ordered_map.proofs.put.+put_box_beside.Given as goal

abbrev pub decreases-put_box_beside : goal.decreases-put_box_beside
decreases-put_box_beside g l = length (l.run.now ++ entries_of l.tree.now)
