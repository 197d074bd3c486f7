use Rattle.std.proofs.Common.{◌≡◌, drop}
use Rattle.net_types.specs.Meets.{add_meets}
use Rattle.policy_compile.proofs.meets.push_meets.Given as goal

-- what is left makes the whole
abbrev pub invariant-loop-other : goal.invariant-loop-other
invariant-loop-other l = add_meets l.cube l.kept.keys (drop l.other-index l.others) ≡ add_meets l.cube l.fn.kept.keys l.others
