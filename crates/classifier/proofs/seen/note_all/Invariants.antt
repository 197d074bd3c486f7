use Rattle.std.proofs.Common.{take}
use Rattle.classifier.specs.Seen.{HasAll}
use Rattle.classifier.proofs.seen.note_all.Given as goal

-- the cubes so far are in the set
abbrev pub invariant-loop-line : goal.invariant-loop-line
invariant-loop-line l = HasAll (take l.line-index l.lines) l.seen
