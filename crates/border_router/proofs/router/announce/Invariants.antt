-- The ones so far have the next hop, and took a place each at most.
use Rattle.std.proofs.Common.{◌≡◌, ◌≤◌, ◌+◌, Some, take}
use Rattle.border_router.specs.Hearing.{announced}
use Rattle.border_router.proofs.router.announce.Given as goal

abbrev pub invariant-loop-prefix : goal.invariant-loop-prefix
invariant-loop-prefix l = (l.next_hops.map ≡ announced (take l.prefix-index l.prefixes) (Some l.next_hop) l.fn.next_hops.map) × (l.fn.next_hops.room ≤ l.next_hops.room + l.prefix-index)
