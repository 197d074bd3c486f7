-- The signatures so far are trimmed.
use Rattle.std.proofs.Common.{◌≡◌, ◌++◌, drop, map, take}
use Rattle.prefix_classes.specs.Slots.{trimmed_shared}
use Rattle.prefix_classes.proofs.kept.trim_shared.Given as goal

abbrev pub invariant-loop-one : goal.invariant-loop-one
invariant-loop-one l = l.shared ≡ map (trimmed_shared l.who l.named) (take l.one-index l.initial.shared) ++ drop l.one-index l.initial.shared
