use Rattle.std.proofs.Common.{◌≡◌, ◌∷◌, length, sym, ap, ◌∙◌, arith}
use Rattle.std.specs.Map.Iter.{deref_pair}
use Rattle.ordered_map.specs.Entries.{entries_of, head_of, above}
use Rattle.ordered_map.proofs.WalkLemmas.{after_left}
use Rattle.ordered_map.proofs.iter.IterIterator.next.Goals as goal

pub returns-clause-steps : goal.returns-clause-steps
returns-clause-steps g c =
    sym c.self.view_is
    ∙ after_left g.K.Ord.cmp g.met.K.Ord.total c.self.inside.last (entries_of c.self.inside.tree.now) (deref_pair (c.in_ok-key.key, c.in_ok-key.value)) c.self.invariant (ap head_of c.self.view_is ∙ sym c.in_ok-key.ensures)

pub returns-clause-goes : goal.returns-clause-goes
returns-clause-goes g c =
    let steps : c.args.self.now ≡ deref_pair (c.in_ok-key.key, c.in_ok-key.value) ∷ above g.K.Ord.cmp c.in_ok-key.key.now (entries_of c.self.inside.tree.now) =
    sym c.self.view_is
    ∙ after_left g.K.Ord.cmp g.met.K.Ord.total c.self.inside.last (entries_of c.self.inside.tree.now) (deref_pair (c.in_ok-key.key, c.in_ok-key.value)) c.self.invariant (ap head_of c.self.view_is ∙ sym c.in_ok-key.ensures) in
    let size = ap length steps in
    record { on = λ _. (tt, tt, omega (arith, size)); keeps = tt; rests = λ _. tt }
