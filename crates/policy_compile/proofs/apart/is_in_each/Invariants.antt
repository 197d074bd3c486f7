use Rattle.std.proofs.Common.{◌≡◌, drop}
use Rattle.std.specs.List.{list_all}
use Rattle.indexmap.specs.IndexSet.{contains}
use Rattle.classifier.specs.Seen.{cube_eq}
use Rattle.policy_compile.proofs.apart.is_in_each.Given as goal

-- what is left decides
abbrev pub invariant-loop-set : goal.invariant-loop-set
invariant-loop-set l = list_all (λ set. contains cube_eq set l.cube) (drop l.set-index l.sets) ≡ list_all (λ set. contains cube_eq set l.cube) l.sets
