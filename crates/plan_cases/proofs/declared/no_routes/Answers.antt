use Rattle.std.proofs.Common.{List, ◌++◌, ◌∷◌, [], ap, ◌∙◌}
use Rattle.std.proofs.lemmas.List.{replicate-append-replicate}
use Rattle.net_types.specs.declared.address.Pid.{Pid}
use Rattle.plan_cases.proofs.declared.no_routes.Goals as goal

abbrev nobody : List Pid
nobody = []

pub loop-joined-preserved : goal.loop-joined-preserved
loop-joined-preserved c = record {
  routes = c.in_ok-add_participant.ensures.routes ∙ c.loop-joined.invariant.routes;
  named = c.in_ok-add_participant.ensures.named ∙ ap (λ names. names ++ nobody ∷ []) c.loop-joined.invariant.named ∙ replicate-append-replicate c.loop-joined.joined 1 nobody;
}
