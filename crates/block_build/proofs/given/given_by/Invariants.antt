-- The rules so far have their numbers, and the number of how the last results leave is known.
use Rattle.std.proofs.Common.{◌≡◌, Some, [], take}
use Rattle.std.specs.List.{slice_get}
use Rattle.classifier.specs.Numbered.{AreNumbered}
use Rattle.block_build.specs.Receivers.{received_items, received_lines}
use Rattle.block_build.proofs.given.given_by.Given as goal

abbrev pub invariant-loop-y : goal.invariant-loop-y
invariant-loop-y l = record {
  numbered : AreNumbered l.table.lists.items (received_lines l.hop (take l.y-index l.lines)) l.numbers.items;
  last : slice_get l.table.lists.items l.last.number ≡ Some (received_items l.hop l.last.results);
  none : slice_get l.table.lists.items l.none ≡ Some [];
}
