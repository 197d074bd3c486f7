-- What is left without those to come is what all leave.
use Rattle.std.proofs.Common.{◌≡◌, drop, length}
use Rattle.net_types.specs.Keys.{tag_cmp}
use Rattle.ordered_map.specs.Entries.{without_each}
use Rattle.tag_table.specs.Entries.{entries_of, IsTable}
use Rattle.tag_table.proofs.table.TagTable.remove_each.Given as goal

abbrev pub invariant-loop-tag : goal.invariant-loop-tag
invariant-loop-tag g l = record {
  items : without_each tag_cmp (drop l.tag-index l.tags) (entries_of l.self-inside.places.items) ≡ without_each tag_cmp l.tags l.fn.self.items;
  table : IsTable l.self-inside.places.items l.self-inside.count;
  room : length l.self-inside.places.items ≡ l.fn.self.room;
}
