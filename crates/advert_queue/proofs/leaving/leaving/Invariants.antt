-- The tags of the prefixes so far are counted.
use Rattle.std.proofs.Common.{map, take}
use Rattle.std.specs.Map.Iter.{deref_pair}
use Rattle.advert_queue.specs.Counts.{AreCounts, by_side}
use Rattle.advert_queue.specs.Leaving.{left, none_present}
use Rattle.advert_queue.proofs.leaving.leaving.Given as goal

abbrev pub invariant-loop-prefix : goal.invariant-loop-prefix
invariant-loop-prefix l = AreCounts l.counts.items (by_side (left l.told.map (map deref_pair (take l.prefix-index l.prefix-items))) none_present)
