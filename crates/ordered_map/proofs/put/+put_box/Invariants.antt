use Rattle.std.proofs.Common.{length}
use Rattle.ordered_map.specs.Entries.{entries_of}
use Rattle.ordered_map.proofs.put.+put_box.Given as goal

abbrev pub decreases-put_box : goal.decreases-put_box
decreases-put_box g l = length (entries_of l.tree.now)
