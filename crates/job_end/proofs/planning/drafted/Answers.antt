-- The pairs that go rise.
use Rattle.std.proofs.Common.{sym, subst, ◌∙◌}
use Rattle.exchange_laws.specs.Listed.{is_pair_before}
use Rattle.net_types.proofs.OrderLemmas.{pairs_total}
use Rattle.net_types.proofs.OrderedLemmas.{ordered_rises}
use Rattle.net_types.specs.Keys.{pair_cmp}
use Rattle.net_types.specs.Sets.{IsRising}
use Rattle.job_end.proofs.planning.drafted.Goals as goal
use Rattle.net_types.proofs.TieLemmas.{pair_tie}

pub changed_pairs-requires : goal.changed_pairs-requires
changed_pairs-requires g c = subst (IsRising is_pair_before) (sym (c.items-2.ensures ∙ c.in_ok-gone.ensures)) (ordered_rises pair_cmp pairs_total pair_tie _)
