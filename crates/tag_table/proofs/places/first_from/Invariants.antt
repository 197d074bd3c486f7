-- What is left has all the entries.
use Rattle.std.proofs.Common.{◌≡◌, ◌+◌, length}
use Rattle.tag_table.specs.Entries.{entries_from}
use Rattle.tag_table.proofs.places.first_from.Given as goal

abbrev pub invariant-loop-left : goal.invariant-loop-left
invariant-loop-left g l = record {
  entries : entries_from l.place l.left ≡ entries_from l.fn.number l.fn.places;
  few : l.place + length l.left ≡ l.fn.number + length l.fn.places;
}

abbrev pub decreases-loop-left : goal.decreases-loop-left
decreases-loop-left g l = length l.left
