use Rattle.std.proofs.Common.{length}
use Rattle.ordered_map.specs.Entries.{entries_of}
use Rattle.ordered_map.proofs.put.+change_or_put_within.Given as goal

abbrev pub decreases-change_or_put_within : goal.decreases-change_or_put_within
decreases-change_or_put_within g l = length (entries_of l.tree.now)
