-- What has an entry is in the set.
use Rattle.std.proofs.Common.{sym, ap, ◌∙◌}
use Rattle.std.specs.Prelude.{is_some}
use Rattle.std.specs.List.{list_any}
use Rattle.net_types.specs.Attributes.{same_ip}
use Rattle.exchange_core.proofs.AddressSets.{found_among}
use Rattle.exchange_core.proofs.address_set.AddressSet.contains.Goals as goal
use Rattle.net_types.proofs.FindLemmas.{is_some-copied}

pub returns : goal.returns
returns c = c.is_some.ensures ∙ sym (is_some-copied c.get.result) ∙ ap is_some c.get.ensures ∙ found_among c.args.ip c.self.inside.addresses.items ∙ ap (list_any (same_ip c.args.ip)) c.self.view_is
