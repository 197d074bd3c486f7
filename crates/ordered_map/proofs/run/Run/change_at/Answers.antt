-- The entry at the place, and none at a gap.
use Rattle.std.proofs.Common.{sym, ◌∙◌}
use Rattle.ordered_map.proofs.ChangeLemmas.{past_stay}
use Rattle.ordered_map.proofs.RunLemmas.{gap_stays, held_changes}
use Rattle.ordered_map.proofs.run.Run.change_at.Goals as goal

pub returns-in-Held : goal.returns-in-Held
returns-in-Held g c =
    let first = c.in-Held.ensures.placed in
    c.change_value.ensures.entries first.before first.entry first.after (c.self.view_is ∙ first.whole) first.size
    ∙ sym (held_changes g.K.Ord.cmp c.args.key.now g.met.K.Ord.total c.args.self.now _ c.requires.rising (g.C.Change.changed c.args.change.now) first)

pub returns-in-Free : goal.returns-in-Free
returns-in-Free g c = sym (gap_stays g.K.Ord.cmp c.args.key.now g.met.K.Ord.total c.args.self.now _ c.requires.rising (g.C.Change.changed c.args.change.now) c.in-Free.ensures.placed)

pub returns-in-Beyond : goal.returns-in-Beyond
returns-in-Beyond g c = sym (past_stay g.K.Ord.cmp c.args.key.now (g.C.Change.changed c.args.change.now) c.args.self.now c.in-Beyond.ensures.placed)
