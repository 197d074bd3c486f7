use Rattle.std.proofs.Common.{◌≡◌, true, false, sym, ap, ◌∙◌}
use Rattle.std.specs.Prelude.{is_some}
use Rattle.std.specs.Vec.{vec_len}
use Rattle.ordered_map.specs.Entries.{entries_of}
use Rattle.ordered_map.proofs.CountLemmas.{first_took, first_none, first_rises}
use Rattle.ordered_map.proofs.map.OrderedMap.take_first.Goals as goal

pub invariant_of-self : goal.invariant_of-self
invariant_of-self g c =
    let some : is_some c.take_least-first.result ≡ true = sym c.is_some.ensures ∙ c.if-is_some.true in
    first_took g.K.Ord.cmp (entries_of c.self.inside.tree) _ (vec_len c.self.inside.spare) (vec_len c.take_least-first.new.spare) c.self.inside.room c.self.inside.count c.self.invariant c.take_least-first.ensures.entries
    (ap is_some (sym c.take_least-first.ensures.first) ∙ some) c.take_least-first.ensures.room

pub invariant_of-self-else-is_some : goal.invariant_of-self-else-is_some
invariant_of-self-else-is_some g c =
    let none : is_some c.take_least-first.result ≡ false = sym c.is_some.ensures ∙ c.if-is_some.false in
    first_none g.K.Ord.cmp (entries_of c.self.inside.tree) _ (vec_len c.self.inside.spare) (vec_len c.take_least-first.new.spare) c.self.inside.room c.self.inside.count c.self.invariant c.take_least-first.ensures.entries
    (ap is_some (sym c.take_least-first.ensures.first) ∙ none) c.take_least-first.ensures.room

pub returns-then-is_some-clause-rising : goal.returns-then-is_some-clause-rising
returns-then-is_some-clause-rising g c = first_rises g.K.Ord.cmp (entries_of c.self.inside.tree) _ c.self.invariant.rising c.take_least-first.ensures.entries

pub returns-else-is_some-clause-rising : goal.returns-else-is_some-clause-rising
returns-else-is_some-clause-rising g c = first_rises g.K.Ord.cmp (entries_of c.self.inside.tree) _ c.self.invariant.rising c.take_least-first.ensures.entries
