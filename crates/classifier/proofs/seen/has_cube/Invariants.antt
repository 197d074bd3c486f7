use Rattle.std.proofs.Common.{◌≡◌, ◌||◌, drop}
use Rattle.net_types.specs.Cubes.{everything}
use Rattle.classifier.specs.Seen.{is_there}
use Rattle.classifier.proofs.seen.has_cube.Given as goal

-- what is left decides
abbrev pub invariant-loop-line : goal.invariant-loop-line
invariant-loop-line l = (is_there (drop l.line-index l.lines) l.cube || is_there (drop l.line-index l.lines) everything) ≡ (is_there l.lines l.cube || is_there l.lines everything)
