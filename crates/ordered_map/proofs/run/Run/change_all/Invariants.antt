-- Up to a place values are changed, and stay from there on.
use Rattle.std.proofs.Common.{◌≤◌, ◌-◌}
use Rattle.std.specs.Vec.{vec_capacity}
use Rattle.ordered_map.proofs.RunLemmas.{IsUpTo}
use Rattle.ordered_map.proofs.run.Run.change_all.Given as goal

abbrev pub invariant-loop-place : goal.invariant-loop-place
invariant-loop-place g l = IsUpTo (g.C.Change.changed l.change) l.fn.self l.place l.self-inside.entries.items × (15 ≤ vec_capacity l.self-inside.entries)

abbrev pub decreases-loop-place : goal.decreases-loop-place
decreases-loop-place g l = l.self-inside.entries.len - l.place
