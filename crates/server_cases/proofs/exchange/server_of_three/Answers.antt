use Rattle.std.proofs.Common.{◌<◌, length, sym, ap, subst, ◌∙◌}
use Rattle.std.specs.FinMap.{FinMap, get, get-empty}
use Rattle.std.specs.Prelude.{IfSome, Option}
use Rattle.net_types.specs.Keys.{route_cmp}
use Rattle.net_types.specs.declared.route.Attrs.{Attrs}
use Rattle.server_cases.proofs.exchange.server_of_three.Goals as goal

pub returns-clause-declared : goal.returns-clause-declared
returns-clause-declared c = record {
  declared = λ k. subst (λ (o : Option Attrs). IfSome o (λ _. k.from.0 < length c.args.names.now.participants))
      (sym (ap (λ (m : FinMap route_cmp Attrs). get m k) (c.add_participant-3.ensures.routes ∙ c.add_participant-2.ensures.routes ∙ c.add_participant.ensures.routes ∙ c.new-server.ensures.routes) ∙ get-empty route_cmp k)) tt;
}
