-- The keys to come leave what all leave, of these entries and of those past them.
use Rattle.std.proofs.Common.{◌≡◌, ◌+◌, length}
use Rattle.ordered_map.specs.Weights.{weigh}
use Rattle.ordered_map.proofs.EachLemmas.{IsGone}
use Rattle.ordered_map.proofs.leaving.take_among.Given as goal

abbrev pub invariant-loop-rest : goal.invariant-loop-rest
invariant-loop-rest g l = record {
  gone : IsGone g.K.Ord.cmp l.fn.keys l.fn.others l.rest l.others;
  count : l.count + length l.fn.others ≡ l.fn.count + length l.others;
  tally : g.T.Tally.total l.tally + weigh g.T.Tally.weight l.others ≡ g.T.Tally.total l.fn.tally + weigh g.T.Tally.weight l.fn.others;
}

abbrev pub decreases-loop-rest : goal.decreases-loop-rest
decreases-loop-rest g l = length l.rest
