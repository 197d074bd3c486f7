use Rattle.std.proofs.Common.{ap, ◌∙◌, nat_eq}
use Rattle.std.specs.Prelude.{find}
use Rattle.std.specs.Option.{option_and_then}
use Rattle.net_types.specs.declared.route.PortInfo.{PortInfo}
use Rattle.std.specs.Prelude.{slice_get}
use Rattle.registry.proofs.IndexLemmas.{numbered_is}
use Rattle.registry.proofs.ports.Ports.numbered.Goals as goal

pub returns : goal.returns
returns c =
    c.at.ensures ∙ ap (λ xs. option_and_then (slice_get xs) c.get_index_of-place.result) c.as_slice.ensures.value ∙ ap (option_and_then (slice_get c.self.inside.list.items)) c.get_index_of-place.ensures.index
    ∙ numbered_is c.args.number.0 (λ (q : PortInfo). q.number.0) c.self.inside.numbers.keys c.self.inside.list.items c.self.invariant.numbers_are
    ∙ ap (find (λ (q : PortInfo). nat_eq q.number.0 c.args.number.0)) c.self.view_is
