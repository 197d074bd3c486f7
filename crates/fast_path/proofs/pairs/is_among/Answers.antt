-- A search in a rising list finds what is there.
use Rattle.std.proofs.Common.{◌∙◌}
use Rattle.net_types.proofs.OrderedLemmas.{search_finds}
use Rattle.net_types.proofs.OrderLemmas.{pairs_total}
use Rattle.net_types.specs.Keys.{pair_cmp}
use Rattle.fast_path.proofs.pairs.is_among.Goals as goal
use Rattle.net_types.proofs.TieLemmas.{pair_tie}

pub returns : goal.returns
returns c = c.is_ok.ensures.value ∙ search_finds pair_cmp pairs_total pair_tie c.args.pairs.now c.args.pair c.binary_search.result c.requires c.binary_search.ensures.bound c.binary_search.ensures.position
