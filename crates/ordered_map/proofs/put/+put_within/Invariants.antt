use Rattle.std.proofs.Common.{length}
use Rattle.ordered_map.specs.Entries.{entries_of}
use Rattle.ordered_map.proofs.put.+put_within.Given as goal

abbrev pub decreases-put_within : goal.decreases-put_within
decreases-put_within g l = length (entries_of l.tree.now)
