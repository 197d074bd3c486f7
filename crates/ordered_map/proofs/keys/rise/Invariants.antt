-- The keys rise if those that are left do.
use Rattle.std.proofs.Common.{◌≡◌, length}
use Rattle.std.specs.FinMap.Entries.{is_sorted}
use Rattle.ordered_map.specs.Parted.{keyed}
use Rattle.ordered_map.proofs.keys.rise.Given as goal

abbrev pub invariant-loop-rest : goal.invariant-loop-rest
invariant-loop-rest g l = is_sorted g.K.Ord.cmp (keyed l.rest) ≡ is_sorted g.K.Ord.cmp (keyed l.fn.keys)

abbrev pub decreases-loop-rest : goal.decreases-loop-rest
decreases-loop-rest g l = length l.rest
