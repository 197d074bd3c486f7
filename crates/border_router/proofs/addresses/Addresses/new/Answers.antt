-- No entries are the empty map.
use Rattle.std.proofs.Common.{ap, ◌∙◌}
use Rattle.std.specs.FinMap.{from_sorted}
use Rattle.net_types.proofs.PlaceLemmas.{sorted_none}
use Rattle.net_types.specs.Keys.{ip_cmp}
use Rattle.border_router.proofs.addresses.Addresses.new.Goals as goal

pub returns : goal.returns
returns c = ap from_sorted c.new.ensures.items ∙ sorted_none ip_cmp
