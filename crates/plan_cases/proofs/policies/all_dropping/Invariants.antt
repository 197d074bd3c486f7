-- Those so far drop.
use Rattle.std.proofs.Common.{◌≡◌, map, take}
use Rattle.plan_cases.specs.Policies.{dropping}
use Rattle.plan_cases.proofs.policies.all_dropping.Given as goal

abbrev pub invariant-loop-participant : goal.invariant-loop-participant
invariant-loop-participant l = l.all.items ≡ map (λ m. dropping) (take l._participant-index l.names.participants)
