-- What is left without those to come is what all leave.
use Rattle.std.proofs.Common.{◌≡◌, ◌≤◌, ◌+◌, drop, length, IsTrue}
use Rattle.std.specs.Vec.{vec_len}
use Rattle.std.specs.FinMap.Entries.{is_sorted}
use Rattle.ordered_map.specs.Entries.{entries_of, without_each}
use Rattle.ordered_map.specs.Weights.{weigh}
use Rattle.ordered_map.proofs.leaving.take_in_turn.Given as goal

abbrev pub invariant-loop-key : goal.invariant-loop-key
invariant-loop-key g l = record {
  entries : without_each g.K.Ord.cmp (drop l.key-index l.keys) (entries_of l.tree) ≡ without_each g.K.Ord.cmp l.keys (entries_of l.fn.tree);
  rising : IsTrue (is_sorted g.K.Ord.cmp (entries_of l.tree));
  count : l.count + length (entries_of l.fn.tree) ≡ l.fn.count + length (entries_of l.tree);
  tally : g.T.Tally.total l.tally + weigh g.T.Tally.weight (entries_of l.tree) ≡ g.T.Tally.total l.fn.tally + weigh g.T.Tally.weight (entries_of l.fn.tree);
  room : vec_len l.fn.spare ≤ vec_len l.spare;
}
