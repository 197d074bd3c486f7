-- The count is that of the entries that are left.
use Rattle.std.specs.Vec.{vec_len}
use Rattle.ordered_map.specs.Entries.{entries_of}
use Rattle.ordered_map.proofs.WeightLemmas.{each_kept}
use Rattle.ordered_map.proofs.map.OrderedMap.remove_counted.Goals as goal

pub invariant_of-self : goal.invariant_of-self
invariant_of-self g c =
    each_kept g.K.Ord.cmp g.met.K.Ord.total c.args.keys.now (entries_of c.self.inside.tree) (entries_of c.take_each.new.tree) (vec_len c.self.inside.spare) (vec_len c.take_each.new.spare) c.self.inside.room c.self.inside.count c.take_each.new.count c.self.invariant c.take_each.ensures.entries c.take_each.ensures.count c.take_each.ensures.room

pub invariant_of-self-else-rise : goal.invariant_of-self-else-rise
invariant_of-self-else-rise g c =
    each_kept g.K.Ord.cmp g.met.K.Ord.total c.args.keys.now (entries_of c.self.inside.tree) (entries_of c.take_in_turn.new.tree) (vec_len c.self.inside.spare) (vec_len c.take_in_turn.new.spare) c.self.inside.room c.self.inside.count c.take_in_turn.new.count c.self.invariant c.take_in_turn.ensures.entries c.take_in_turn.ensures.count c.take_in_turn.ensures.room

pub returns-then-rise-clause-rising : goal.returns-then-rise-clause-rising
returns-then-rise-clause-rising g c =
    (each_kept g.K.Ord.cmp g.met.K.Ord.total c.args.keys.now (entries_of c.self.inside.tree) (entries_of c.take_each.new.tree) (vec_len c.self.inside.spare) (vec_len c.take_each.new.spare) c.self.inside.room c.self.inside.count c.take_each.new.count c.self.invariant c.take_each.ensures.entries c.take_each.ensures.count c.take_each.ensures.room).rising

pub returns-else-rise-clause-rising : goal.returns-else-rise-clause-rising
returns-else-rise-clause-rising g c =
    (each_kept g.K.Ord.cmp g.met.K.Ord.total c.args.keys.now (entries_of c.self.inside.tree) (entries_of c.take_in_turn.new.tree) (vec_len c.self.inside.spare) (vec_len c.take_in_turn.new.spare) c.self.inside.room c.self.inside.count c.take_in_turn.new.count c.self.invariant c.take_in_turn.ensures.entries c.take_in_turn.ensures.count c.take_in_turn.ensures.room).rising
