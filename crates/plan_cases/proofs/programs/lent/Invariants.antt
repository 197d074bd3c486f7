-- The classifiers of the first are lent.
use Rattle.std.proofs.Common.{◌≡◌, map, take}
use Rattle.plan_cases.specs.Policies.{lent_of}
use Rattle.plan_cases.proofs.programs.lent.Given as goal

abbrev pub invariant-loop-both : goal.invariant-loop-both
invariant-loop-both l = l.views ≡ map lent_of (take l.both-index l.programs)
