use Rattle.std.proofs.Common.{ap, ◌∙◌, sym, nat_eq, ◌||◌, List}
use Rattle.std.specs.List.{list_any}
use Rattle.std.specs.Cmp.{nat_eq_equiv}
use Rattle.std.specs.Cmp.Lexicographic.{nat_list_eq_equiv}
use Rattle.net_types.specs.Octets.{same_octets}
use Rattle.net_types.specs.declared.route.PortInfo.{PortInfo}
use Rattle.registry.proofs.IndexLemmas.{keyed_is, any_three}
use Rattle.registry.proofs.ports.Ports.has.Goals as goal

pub returns : goal.returns
returns c =
    let ps : List PortInfo = c.self.inside.list.items in
    let k = c.self.invariant in
    let number = c.contains-has_number.ensures ∙ keyed_is nat_eq nat_eq_equiv c.args.number.0 (λ (q : PortInfo). q.number.0) c.self.inside.numbers.keys ps k.numbers_are in
    let ip = c.contains-has_ip.ensures ∙ keyed_is nat_eq nat_eq_equiv c.args.ip.0 (λ (q : PortInfo). q.ip.0) c.self.inside.addresses.keys ps k.addresses_are in
    let mac = c.contains-has_mac.ensures ∙ keyed_is same_octets nat_list_eq_equiv c.args.mac.0 (λ (q : PortInfo). q.mac.0) c.self.inside.macs.keys ps k.macs_are in
    c.some_of.ensures ∙ (λ i. number i || ip i || mac i)
    ∙ sym (any_three (λ (q : PortInfo). nat_eq q.number.0 c.args.number.0) (λ q. nat_eq q.ip.0 c.args.ip.0) (λ q. same_octets q.mac.0 c.args.mac.0) ps)
    ∙ ap (list_any (λ (q : PortInfo). nat_eq q.number.0 c.args.number.0 || nat_eq q.ip.0 c.args.ip.0 || same_octets q.mac.0 c.args.mac.0)) c.self.view_is
