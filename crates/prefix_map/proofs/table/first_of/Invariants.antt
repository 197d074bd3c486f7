use Rattle.std.proofs.Common.{◌≡◌, drop}
use Rattle.net_types.specs.Routes.{first_of_list}
use Rattle.prefix_map.specs.Tables.{all_entries}
use Rattle.prefix_map.proofs.table.first_of.Given as goal

abbrev pub invariant-loop-part : goal.invariant-loop-part
invariant-loop-part g l = first_of_list (all_entries l.parts) ≡ first_of_list (all_entries (drop l.part-index l.parts))
