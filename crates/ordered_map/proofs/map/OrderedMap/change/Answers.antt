use Rattle.ordered_map.specs.Entries.{entries_of}
use Rattle.ordered_map.proofs.ChangeLemmas.{values_rise, values_kept}
use Rattle.ordered_map.proofs.map.OrderedMap.change.Goals as goal

pub invariant_of-self : goal.invariant_of-self
invariant_of-self g c = values_kept g.K.Ord.cmp _ (entries_of c.self.inside.tree) _ _ c.self.inside.room _ c.self.invariant c.change_at.ensures

pub returns-clause-rising : goal.returns-clause-rising
returns-clause-rising g c = values_rise g.K.Ord.cmp _ (entries_of c.self.inside.tree) _ c.self.invariant.rising c.change_at.ensures
