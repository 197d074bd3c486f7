-- The first are copied.
use Rattle.std.proofs.Common.{◌≡◌, take}
use Rattle.plan_cases.proofs.policies.same.Given as goal

abbrev pub invariant-loop-texts : goal.invariant-loop-texts
invariant-loop-texts l = l.twin.items ≡ take l.texts-index l.all
