-- The messages of the front.
use Rattle.std.proofs.Common.{◌≡◌, map, take}
use Rattle.std.specs.Map.Iter.{deref_pair}
use Rattle.advert_queue.specs.Changes.{message_of}
use Rattle.advert_queue.proofs.changes.first_messages.Given as goal

abbrev pub invariant-loop-prefix : goal.invariant-loop-prefix
invariant-loop-prefix l = l.messages ≡ map (message_of l.base) (map deref_pair (take l.prefix-index l.prefix-items))
