-- No entries are the empty table.
use Rattle.std.proofs.Common.{ap, ◌∙◌}
use Rattle.std.specs.FinMap.{from_sorted}
use Rattle.net_types.proofs.PlaceLemmas.{sorted_none}
use Rattle.net_types.specs.Keys.{pair_cmp}
use Rattle.match_switch.proofs.switch.Switch.new.Goals as goal

pub returns-clause-table : goal.returns-clause-table
returns-clause-table c = ap from_sorted c.new.ensures.items ∙ sorted_none pair_cmp
