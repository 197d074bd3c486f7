-- The entries of the front.
use Rattle.std.proofs.Common.{◌≡◌, map, take}
use Rattle.std.specs.Map.Iter.{deref_pair}
use Rattle.advert_queue.proofs.changes.first_entries.Given as goal

abbrev pub invariant-loop-prefix : goal.invariant-loop-prefix
invariant-loop-prefix l = l.entries ≡ map deref_pair (take l.prefix-index l.prefix-items)
