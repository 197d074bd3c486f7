-- The first one with members is still to come, whatever signatures are shared.
use Rattle.std.proofs.Common.{◌≡◌, find}
use Rattle.prefix_classes.specs.Counts.{has_members}
use Rattle.prefix_classes.specs.Slots.{Slots, shown_items}
use Rattle.prefix_classes.proofs.kept.first_with_members.Given as goal

abbrev pub invariant-loop-tag : goal.invariant-loop-tag
invariant-loop-tag l = (slots : Slots) → find has_members (shown_items slots l.tag-iterator) ≡ find has_members (shown_items slots l.fn.places)
