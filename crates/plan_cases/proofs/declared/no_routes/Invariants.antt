-- So many have joined.
use Rattle.std.proofs.Common.{◌≡◌, [], replicate}
use Rattle.std.specs.FinMap.{empty}
use Rattle.plan_cases.proofs.declared.no_routes.Given as goal

abbrev pub invariant-loop-joined : goal.invariant-loop-joined
invariant-loop-joined l = record { routes : l.server.routes ≡ empty; named : l.server.named ≡ replicate l.joined [] }
