use Rattle.std.proofs.Common.{ap, ◌∙◌, sym, nat_eq, false, ◌&&◌, subst}
use Rattle.std.specs.Prelude.{slice_get}
use Rattle.std.specs.List.{list_any, IsDistinct}
use Rattle.std.specs.Option.{option_and_then, option_map_or}
use Rattle.net_types.specs.declared.route.PortInfo.{PortInfo}
use Rattle.registry.proofs.IndexLemmas.{numbered_is, owner_is}
use Rattle.registry.proofs.ports.Ports.owns_address.Goals as goal

pub returns : goal.returns
returns c =
    c.is_of.ensures
    ∙ ap (λ o. option_map_or (λ (q : PortInfo). nat_eq q.owner.0 c.args.who.0) o false)
    (c.at.ensures ∙ ap (λ xs. option_and_then (slice_get xs) c.get_index_of-place.result) c.as_slice.ensures.value ∙ ap (option_and_then (slice_get c.self.inside.list.items)) c.get_index_of-place.ensures.index
    ∙ numbered_is c.args.ip.0 (λ (q : PortInfo). q.ip.0) c.self.inside.addresses.keys c.self.inside.list.items c.self.invariant.addresses_are)
    ∙ sym (owner_is c.self.inside.list.items c.args.who.0 c.args.ip.0 (subst (IsDistinct nat_eq) c.self.invariant.addresses_are c.self.invariant.distinct))
    ∙ ap (list_any (λ (q : PortInfo). nat_eq q.owner.0 c.args.who.0 && nat_eq q.ip.0 c.args.ip.0)) c.self.view_is
