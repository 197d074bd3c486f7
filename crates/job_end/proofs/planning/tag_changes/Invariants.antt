-- the moves so far
use Rattle.std.proofs.Common.{◌≡◌, map, take}
use Rattle.job_end.specs.Drafts.{told_change}
use Rattle.job_end.proofs.planning.tag_changes.Given as goal

abbrev pub invariant-loop-prefix : goal.invariant-loop-prefix
invariant-loop-prefix l = l.tags ≡ map told_change (take l.prefix-index l.moves)
