use Rattle.std.proofs.Common.{◌≡◌, drop}
use Rattle.classifier.specs.Seen.{cube_eq}
use Rattle.cells.specs.Adds.{adds}
use Rattle.cells.specs.Cells.{met_by}
use Rattle.cells.proofs.cut.push_met_by.Given as goal

-- what is left makes the whole
abbrev pub invariant-loop-other : goal.invariant-loop-other
invariant-loop-other l = adds cube_eq l.met.keys (met_by l.atom (drop l.other-index l.cubes)) ≡ adds cube_eq l.fn.met.keys (met_by l.atom l.cubes)
