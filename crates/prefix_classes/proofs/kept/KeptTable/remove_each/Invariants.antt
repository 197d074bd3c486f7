-- What is left without those to come is what all leave.
use Rattle.std.proofs.Common.{◌≡◌, drop}
use Rattle.net_types.specs.Keys.{tag_cmp}
use Rattle.ordered_map.specs.Entries.{without_each}
use Rattle.prefix_classes.specs.Slots.{AreShared, shown_items}
use Rattle.prefix_classes.proofs.kept.KeptTable.remove_each.Given as goal

abbrev pub invariant-loop-tag : goal.invariant-loop-tag
invariant-loop-tag l = record {
  items : without_each tag_cmp (drop l.tag-index l.tags) (shown_items l.self-inside.shared.items l.self-inside.places.items) ≡ without_each tag_cmp l.tags l.fn.self.items;
  shared : AreShared l.self-inside.shared.items l.self-inside.places.items;
  room : l.self-inside.places.room ≡ l.fn.self.room;
}
