use Rattle.std.proofs.Common.{length}
use Rattle.ordered_map.specs.Entries.{entries_of}
use Rattle.ordered_map.proofs.leaving.+take_each.Given as goal

abbrev pub decreases-take_each : goal.decreases-take_each
decreases-take_each g l = length (entries_of l.tree.now)
