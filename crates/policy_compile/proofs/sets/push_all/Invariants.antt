use Rattle.std.proofs.Common.{◌≡◌, drop}
use Rattle.policy_compile.specs.Sets.{adds}
use Rattle.policy_compile.proofs.sets.push_all.Given as goal

-- what is left makes the whole
abbrev pub invariant-loop-value : goal.invariant-loop-value
invariant-loop-value g l = adds g.T.PartialEq.eq l.set.keys (drop l.value-index l.others) ≡ adds g.T.PartialEq.eq l.fn.set.keys l.others
