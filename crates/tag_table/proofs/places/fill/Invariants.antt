-- The entries stay, and there are no more places than are wanted.
use Rattle.std.proofs.Common.{◌≡◌, ◌≤◌, ◌-◌, length}
use Rattle.tag_table.specs.Entries.{entries_of}
use Rattle.tag_table.proofs.places.fill.Given as goal

abbrev pub invariant-loop-places : goal.invariant-loop-places
invariant-loop-places g l = record {
  entries : entries_of l.places.items ≡ entries_of l.fn.places.items;
  kept : length l.fn.places.items ≤ length l.places.items;
  few : length l.fn.places.items ≤ l.count → length l.places.items ≤ l.count;
}

abbrev pub decreases-loop-places : goal.decreases-loop-places
decreases-loop-places g l = l.count - l.places.len
