-- The ones so far are gone.
use Rattle.std.proofs.Common.{◌≡◌, ◌≤◌, take}
use Rattle.border_router.specs.Hearing.{withdrawn}
use Rattle.border_router.proofs.router.withdraw.Given as goal

abbrev pub invariant-loop-prefix : goal.invariant-loop-prefix
invariant-loop-prefix l = (l.next_hops.map ≡ withdrawn (take l.prefix-index l.prefixes) l.fn.next_hops.map) × (l.fn.next_hops.room ≤ l.next_hops.room)
