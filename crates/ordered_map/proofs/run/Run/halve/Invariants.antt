-- What was taken out stands in front of what was taken out before.
use Rattle.std.proofs.Common.{◌≡◌, ◌≤◌, ◌++◌, length}
use Rattle.std.specs.Vec.{vec_capacity}
use Rattle.ordered_map.proofs.run.Run.halve.Given as goal

abbrev pub invariant-loop-self : goal.invariant-loop-self
invariant-loop-self g l = (l.self-inside.entries.items ++ l.upper ≡ l.fn.self) × (l.half ≤ length l.self-inside.entries.items) × (15 ≤ vec_capacity l.self-inside.entries)

abbrev pub decreases-loop-self : goal.decreases-loop-self
decreases-loop-self g l = length l.self-inside.entries.items
