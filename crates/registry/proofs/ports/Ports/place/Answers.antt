use Rattle.std.proofs.Common.{nat_eq, ap, ◌∙◌}
use Rattle.std.specs.List.{position_from}
use Rattle.net_types.specs.declared.route.PortInfo.{PortInfo}
use Rattle.registry.proofs.IndexLemmas.{number_place}
use Rattle.registry.proofs.ports.Ports.place.Goals as goal

pub returns-clause-place : goal.returns-clause-place
returns-clause-place c =
    c.get_index_of.ensures.index
    ∙ number_place c.args.number.0 (λ (q : PortInfo). q.number.0) c.self.inside.numbers.keys c.self.inside.list.items c.self.invariant.numbers_are
    ∙ ap (position_from (λ (q : PortInfo). nat_eq q.number.0 c.args.number.0) 0) c.self.view_is
