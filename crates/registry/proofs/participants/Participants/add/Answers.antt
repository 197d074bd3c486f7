use Rattle.std.proofs.Common.{ap, ◌∙◌, nat_eq}
use Rattle.std.specs.List.{position_from, list_any}
use Rattle.std.specs.Cmp.Lexicographic.{pointwise}
use Rattle.net_types.specs.Octets.{same_octets}
use Rattle.net_types.specs.declared.route.Participant.{Participant}
use Rattle.registry.proofs.IndexLemmas.{unnamed_is}
use Rattle.registry.proofs.participants.Participants.add.Goals as goal

pub put-requires-clause-absent : goal.put-requires-clause-absent
put-requires-clause-absent c =
    ap (list_any (λ k. pointwise nat_eq c.in_ok-key.key.items k.items)) c.reserve.ensures.keys
    ∙ ap (λ q. list_any (λ k. pointwise nat_eq q k.items) c.self.inside.names.keys) c.in_ok-key.ensures.items
    ∙ unnamed_is c.args.name.now (λ k. k.items) (λ (m : Participant). m.name) c.self.inside.names.keys c.self.inside.list.items c.self.invariant
    (ap (position_from (λ (m : Participant). same_octets m.name c.args.name.now) 0) c.self.view_is ∙ c.requires)
