-- Those of the sets so far that have the place.
use Rattle.std.proofs.Common.{◌≡◌, take}
use Rattle.std.specs.List.{filter}
use Rattle.policy_compile.specs.Columns.{set_at}
use Rattle.policy_compile.proofs.rows.having.Given as goal

abbrev pub invariant-loop-number : goal.invariant-loop-number
invariant-loop-number l = l.those.items ≡ filter (λ n. set_at l.sets n l.place) (take l.number-index l.numbers)
