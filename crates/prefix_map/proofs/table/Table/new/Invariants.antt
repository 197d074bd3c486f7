use Rattle.std.proofs.Common.{◌≡◌, [], length}
use Rattle.prefix_map.specs.Tables.{all_entries, AreNumbered}
use Rattle.prefix_map.proofs.table.Table.new.Given as goal

abbrev pub invariant-loop : goal.invariant-loop
invariant-loop g l = record {
  numbered : AreNumbered 0 l.parts.items;
  whole : length l.parts.items ≡ l.counter;
  empty : all_entries l.parts.items ≡ [];
}
