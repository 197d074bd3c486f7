-- What the entries have of the address is what the map has.
use Rattle.std.proofs.Common.{sym, ap, ◌∙◌}
use Rattle.std.specs.FinMap.{get}
use Rattle.net_types.proofs.PlaceLemmas.{get_sorted}
use Rattle.net_types.specs.Keys.{ip_cmp}
use Rattle.border_router.proofs.addresses.Addresses.get.Goals as goal

pub returns : goal.returns
returns c = c.copied.ensures ∙ c.get.ensures ∙ sym (get_sorted ip_cmp c.self.inside.macs.items c.args.ip c.self.invariant) ∙ ap (λ s. get s.map c.args.ip) c.self.view_is
