use Rattle.std.proofs.Common.{◌≡◌, true, false, sym, ap, ◌∙◌}
use Rattle.std.specs.Prelude.{is_some}
use Rattle.std.specs.Vec.{vec_len}
use Rattle.ordered_map.specs.Entries.{entries_of}
use Rattle.ordered_map.proofs.CountLemmas.{took_known, took_none, without_rises}
use Rattle.ordered_map.proofs.map.OrderedMap.remove.Goals as goal

pub invariant_of-self : goal.invariant_of-self
invariant_of-self g c =
    let some : is_some c.take_from.new.taken ≡ true = sym c.is_some.ensures ∙ c.if-is_some.true in
    took_known g.K.Ord.cmp g.met.K.Ord.total (entries_of c.self.inside.tree) _ c.args.key.now (vec_len c.self.inside.spare) (vec_len c.take_from.new.spare) c.self.inside.room c.self.inside.count c.self.invariant c.take_from.ensures.entries
    (ap is_some (sym c.take_from.ensures.value) ∙ some) c.take_from.ensures.room

pub invariant_of-self-else-is_some : goal.invariant_of-self-else-is_some
invariant_of-self-else-is_some g c =
    let none : is_some c.take_from.new.taken ≡ false = sym c.is_some.ensures ∙ c.if-is_some.false in
    took_none g.K.Ord.cmp g.met.K.Ord.total (entries_of c.self.inside.tree) _ c.args.key.now (vec_len c.self.inside.spare) (vec_len c.take_from.new.spare) c.self.inside.room c.self.inside.count c.self.invariant c.take_from.ensures.entries
    (ap is_some (sym c.take_from.ensures.value) ∙ none) c.take_from.ensures.room

pub returns-then-is_some-clause-rising : goal.returns-then-is_some-clause-rising
returns-then-is_some-clause-rising g c =
    without_rises g.K.Ord.cmp g.met.K.Ord.total (entries_of c.self.inside.tree) _ c.args.key.now c.self.invariant.rising c.take_from.ensures.entries

pub returns-else-is_some-clause-rising : goal.returns-else-is_some-clause-rising
returns-else-is_some-clause-rising g c =
    without_rises g.K.Ord.cmp g.met.K.Ord.total (entries_of c.self.inside.tree) _ c.args.key.now c.self.invariant.rising c.take_from.ensures.entries
