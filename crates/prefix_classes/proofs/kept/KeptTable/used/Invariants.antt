-- The tags so far, and those of the entries that are left, whatever signatures are shared.
use Rattle.std.proofs.Common.{◌≡◌, ◌++◌, []}
use Rattle.prefix_classes.specs.Counts.{used_in}
use Rattle.prefix_classes.specs.Slots.{shown_items}
use Rattle.prefix_classes.proofs.kept.KeptTable.used.Given as goal

abbrev pub invariant-loop-tag : goal.invariant-loop-tag
invariant-loop-tag l = l.tags.items ++ used_in (shown_items [] l.tag-iterator) ≡ used_in l.self.items
