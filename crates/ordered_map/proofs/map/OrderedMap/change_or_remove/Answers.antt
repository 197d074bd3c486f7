use Rattle.std.proofs.Common.{◌≡◌, true, false, sym, ap, ◌∙◌}
use Rattle.std.specs.Prelude.{is_some}
use Rattle.std.specs.Vec.{vec_len}
use Rattle.ordered_map.specs.Entries.{entries_of}
use Rattle.ordered_map.proofs.LapseLemmas.{lapsed_none, lapsed_rises, lapsed_took}
use Rattle.ordered_map.proofs.map.OrderedMap.change_or_remove.Goals as goal

pub invariant_of-self : goal.invariant_of-self
invariant_of-self g c =
    let some : is_some c.change_or_take.new.taken ≡ true = sym c.is_some.ensures ∙ c.if-is_some.true in
    lapsed_took g.K.Ord.cmp g.met.K.Ord.total c.args.key.now (g.C.Change.changed c.args.change.now) g.V.Lapse.lapsed (entries_of c.self.inside.tree) _ c.change_or_take.ensures.entries (vec_len c.self.inside.spare) (vec_len c.change_or_take.new.spare) c.self.inside.room c.self.inside.count c.self.invariant c.change_or_take.ensures.room
    (ap is_some (sym c.change_or_take.ensures.value) ∙ some)

pub invariant_of-self-else-is_some : goal.invariant_of-self-else-is_some
invariant_of-self-else-is_some g c =
    let none : is_some c.change_or_take.new.taken ≡ false = sym c.is_some.ensures ∙ c.if-is_some.false in
    lapsed_none g.K.Ord.cmp g.met.K.Ord.total c.args.key.now (g.C.Change.changed c.args.change.now) g.V.Lapse.lapsed (entries_of c.self.inside.tree) _ c.change_or_take.ensures.entries (vec_len c.self.inside.spare) (vec_len c.change_or_take.new.spare) c.self.inside.room c.self.inside.count c.self.invariant c.change_or_take.ensures.room
    (ap is_some (sym c.change_or_take.ensures.value) ∙ none)

pub returns-then-is_some-clause-rising : goal.returns-then-is_some-clause-rising
returns-then-is_some-clause-rising g c = lapsed_rises g.K.Ord.cmp g.met.K.Ord.total c.args.key.now (g.C.Change.changed c.args.change.now) g.V.Lapse.lapsed (entries_of c.self.inside.tree) _ c.change_or_take.ensures.entries c.self.invariant.rising

pub returns-clause-rising : goal.returns-clause-rising
returns-clause-rising g c = lapsed_rises g.K.Ord.cmp g.met.K.Ord.total c.args.key.now (g.C.Change.changed c.args.change.now) g.V.Lapse.lapsed (entries_of c.self.inside.tree) _ c.change_or_take.ensures.entries c.self.invariant.rising
