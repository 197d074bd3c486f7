use Rattle.std.proofs.Common.{◌≡◌, ◌++◌, take}
use Rattle.prefix_map.specs.Entries.{seen_entries}
use Rattle.prefix_map.specs.Tables.{all_entries}
use Rattle.prefix_map.proofs.table.Table.gather.Given as goal

abbrev pub invariant-loop-part : goal.invariant-loop-part
invariant-loop-part g l = seen_entries l.entries.items ≡ seen_entries l.initial.entries.items ++ all_entries (take l.part-index l.part-items)
