-- The entry at the place, and none at a gap.
use Rattle.std.proofs.Common.{sym, ap, ◌∙◌}
use Rattle.std.specs.Prelude.{Some, slice_index_or}
use Rattle.std.specs.FinMap.Entries.{find}
use Rattle.ordered_map.proofs.RunLemmas.{gap_at, gap_past, held_at, is_there}
use Rattle.ordered_map.proofs.run.Run.get.Goals as goal

pub returns-in-Held : goal.returns-in-Held
returns-in-Held g c =
    let es = c.args.self.now in
    let first = c.in-Held.ensures.placed in
    let there = c.index.ensures ∙ ap (λ ds. slice_index_or ds c.in-Held.place c.index.result.now) c.self.view_is ∙ is_there g.K.Ord.cmp c.args.key.now es _ _ first c.index.result.now in
    ap (λ e. Some e.1) there
    ∙ sym (ap (find g.K.Ord.cmp c.args.key.now) first.whole ∙ (held_at g.K.Ord.cmp c.args.key.now g.met.K.Ord.total es _ c.requires.rising first).find_is)

pub returns-in-Free : goal.returns-in-Free
returns-in-Free g c = sym ((gap_at g.K.Ord.cmp c.args.key.now g.met.K.Ord.total c.args.self.now _ c.requires.rising c.in-Free.ensures.placed).find_is)

pub returns-in-Beyond : goal.returns-in-Beyond
returns-in-Beyond g c = sym ((gap_past g.K.Ord.cmp c.args.key.now c.args.self.now c.in-Beyond.ensures.placed).find_is)
