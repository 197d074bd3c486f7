use Rattle.std.proofs.Common.{◌≡◌, ◌++◌}
use Rattle.policy_compile.proofs.parts.appended.Given as goal

-- the classifiers that were taken stand last
abbrev pub invariant-loop-part : goal.invariant-loop-part
invariant-loop-part l = l.parts.items ≡ l.fn.first.items ++ l.yielded
