use Rattle.std.proofs.Common.{ap, ◌∙◌}
use Rattle.net_types.specs.declared.route.Participant.{Participant}
use Rattle.std.specs.List.{position_from}
use Rattle.net_types.specs.Octets.{same_octets}
use Rattle.registry.proofs.IndexLemmas.{named_is}
use Rattle.registry.proofs.participants.Participants.place.Goals as goal

pub returns-clause-place : goal.returns-clause-place
returns-clause-place c =
    c.get_index_of.ensures.index
    ∙ named_is c.args.name.now (λ k. k.items) (λ (m : Participant). m.name) c.self.inside.names.keys c.self.inside.list.items c.self.invariant
    ∙ ap (position_from (λ (m : Participant). same_octets m.name c.args.name.now) 0) c.self.view_is
