use Rattle.std.proofs.Common.{length}
use Rattle.ordered_map.specs.Entries.{entries_of}
use Rattle.ordered_map.proofs.change.+take_from.Given as goal

abbrev pub decreases-take_from : goal.decreases-take_from
decreases-take_from g l = length (entries_of l.tree.now)
