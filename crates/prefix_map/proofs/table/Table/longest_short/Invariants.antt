use Rattle.std.proofs.Common.{◌≤◌}
use Rattle.prefix_map.specs.Tables.{all_entries, AreShort}
use Rattle.prefix_map.proofs.table.Table.longest_short.Given as goal

abbrev pub invariant-loop-len : goal.invariant-loop-len
invariant-loop-len g l = (l.len ≤ 16) × AreShort l.len l.ip (all_entries l.self.parts.items)

abbrev pub decreases-loop-len : goal.decreases-loop-len
decreases-loop-len g l = l.len
