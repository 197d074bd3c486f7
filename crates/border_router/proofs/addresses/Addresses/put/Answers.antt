-- What is put into the entries is put into the map.
use Rattle.std.proofs.Common.{ap, ◌∙◌}
use Rattle.std.specs.FinMap.{from_sorted, insert}
use Rattle.net_types.proofs.OrderLemmas.{ips_total}
use Rattle.net_types.proofs.PlaceLemmas.{insert_sorted}
use Rattle.net_types.specs.Keys.{ip_cmp}
use Rattle.border_router.proofs.addresses.Addresses.put.Goals as goal

pub returns-clause-map : goal.returns-clause-map
returns-clause-map c =
    ap (from_sorted {R = ip_cmp}) c.put.ensures.items ∙ insert_sorted ip_cmp ips_total c.args.ip c.args.mac c.self.inside.macs.items c.self.invariant
    ∙ ap (λ s. insert s.map c.args.ip c.args.mac) c.self.view_is
