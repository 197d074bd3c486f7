-- The key is past the lesser half, and less than the entry after the part that is left.
use Rattle.std.proofs.Common.{◌≤◌, ◌<◌, ◌-◌, length, take}
use Rattle.ordered_map.specs.Runs.{IsLess, IsPast}
use Rattle.ordered_map.proofs.run.place_before.Given as goal

abbrev pub invariant-loop-from : goal.invariant-loop-from
invariant-loop-from g l = record { past : IsPast g.K.Ord.cmp l.key (take l.from l.entries); order : l.from ≤ l.to; within : l.to < length l.entries; low : IsLess g.K.Ord.cmp l.key l.entries l.to }

abbrev pub decreases-loop-from : goal.decreases-loop-from
decreases-loop-from g l = l.to - l.from
