use Rattle.std.proofs.Common.{◌≡◌, drop}
use Rattle.std.specs.List.{list_all}
use Rattle.indexmap.specs.IndexSet.{contains}
use Rattle.classifier.specs.Seen.{cube_eq}
use Rattle.policy_compile.proofs.sets.has_all.Given as goal

-- what is left decides
abbrev pub invariant-loop-other : goal.invariant-loop-other
invariant-loop-other l = list_all (contains cube_eq l.cubes) (drop l.other-index l.others) ≡ list_all (contains cube_eq l.cubes) l.others
