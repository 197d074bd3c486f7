-- A search in a rising list finds what is there.
use Rattle.std.proofs.Common.{◌∙◌}
use Rattle.net_types.proofs.OrderLemmas.{prefix_tie, prefixes_total}
use Rattle.net_types.proofs.OrderedLemmas.{search_finds}
use Rattle.net_types.specs.Keys.{prefix_cmp}
use Rattle.bgp_update.proofs.prefixes.is_among.Goals as goal

pub returns : goal.returns
returns c = λ r. c.is_ok.ensures.value ∙ search_finds prefix_cmp prefixes_total prefix_tie c.args.list.now c.args.prefix c.binary_search.result r c.binary_search.ensures.bound c.binary_search.ensures.position
