-- Nothing is built.
use Rattle.std.proofs.Common.{ap, ◌∙◌}
use Rattle.std.specs.FinMap.{from_sorted}
use Rattle.net_types.proofs.PlaceLemmas.{sorted_none}
use Rattle.net_types.specs.Keys.{pair_cmp}
use Rattle.recompile.proofs.swap.Built.new.Goals as goal

pub returns : goal.returns
returns c = ap (from_sorted {R = pair_cmp}) c.new.ensures.items ∙ sorted_none pair_cmp
