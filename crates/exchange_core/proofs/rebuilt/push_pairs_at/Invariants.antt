use Rattle.std.proofs.Common.{◌≡◌, ◌++◌, filter, length}
use Rattle.std.specs.FinMap.{keys}
use Rattle.exchange_core.specs.Rebuilt.{is_at, is_later}
use Rattle.exchange_core.proofs.rebuilt.push_pairs_at.Given as goal

-- those so far and the later ones are all
abbrev pub invariant-loop-pair : goal.invariant-loop-pair
invariant-loop-pair l = l.pairs.items ++ filter (is_later l.last) (keys l.switch.table) ≡ l.fn.pairs.items ++ filter (is_at l.fn.port) (keys l.switch.table)

abbrev pub decreases-loop-pair : goal.decreases-loop-pair
decreases-loop-pair l = length (filter (is_later l.last) (keys l.switch.table))
