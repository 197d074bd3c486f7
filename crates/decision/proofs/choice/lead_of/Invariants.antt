use Rattle.std.proofs.Common.{◌≡◌, drop}
use Rattle.decision.specs.Passes.{lead_of}
use Rattle.decision.proofs.choice.lead_of.Given as goal

abbrev pub invariant-loop-route : goal.invariant-loop-route
invariant-loop-route l = lead_of l.lead (drop l.route-index l.routes) ≡ lead_of l.fn.first l.routes
