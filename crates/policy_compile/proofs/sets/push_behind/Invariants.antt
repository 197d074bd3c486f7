use Rattle.std.proofs.Common.{◌≡◌, drop}
use Rattle.net_types.specs.Meets.{behind_one}
use Rattle.classifier.specs.Seen.{cube_eq}
use Rattle.policy_compile.specs.Sets.{adds}
use Rattle.policy_compile.proofs.sets.push_behind.Given as goal

-- what is left makes the whole
abbrev pub invariant-loop-other : goal.invariant-loop-other
invariant-loop-other l = adds cube_eq l.cubes.keys (behind_one l.set (drop l.other-index l.others)) ≡ adds cube_eq l.fn.cubes.keys (behind_one l.set l.others)
