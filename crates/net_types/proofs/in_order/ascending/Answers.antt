-- A sorted list without repeats.
use Rattle.std.proofs.Common.{◌∙◌}
use Rattle.std.proofs.lemmas.List.Filters.{dedup_is}
use Rattle.net_types.proofs.OrderedLemmas.{deduped_is}
use Rattle.net_types.proofs.in_order.ascending.Goals as goal

pub returns : goal.returns
returns g c =
    dedup_is _ _ _ c.dedup.ensures.filtered
    ∙ deduped_is g.T.Ord.cmp g.met.T.Ord.total c.requires g.T.PartialEq.eq g.met.T.Ord.matches_eq c.args.values.items c.sort_unstable.new.self.items c.sort_unstable.ensures.permutation c.sort_unstable.ensures.sorted
